use Rattle.std.proofs.Common.{◌++◌, ◌∙◌, ap, sym}
use Rattle.rohc_header.specs.Original.{octet}
use Rattle.rohc_context.specs.Window.{outcomes}
use Rattle.rohc_context.specs.SavedText.{long_text}
use Rattle.rohc_context.proofs.SavedLemmas.{window_saved, two_puts}
use Rattle.rohc_context.proofs.saving.put_window.Goals as goal

pub returns-clause-text : goal.returns-clause-text
unfolding outcomes
returns-clause-text c =
    two_puts c.args.text.now.items c.put_octet.new.text.items c.put_long.new.text.items (octet c.args.window.length) (long_text c.args.window.word) c.put_octet.ensures c.put_long.ensures.text
    ∙ ap (λ w. c.args.text.now.items ++ w) (sym (window_saved c.args.window.length c.args.window.word c.args.window.none_above))
