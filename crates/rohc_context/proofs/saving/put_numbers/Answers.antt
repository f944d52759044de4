use Rattle.std.proofs.Common.{◌++◌}
use Rattle.rohc_header.specs.Original.{octet, word, quad}
use Rattle.rohc_context.specs.SavedText.{numbers_text}
use Rattle.rohc_context.proofs.SavedLemmas.{two_puts}
use Rattle.rohc_context.proofs.saving.put_numbers.Goals as goal

pub returns-clause-text : goal.returns-clause-text
unfolding numbers_text
returns-clause-text c =
    two_puts c.args.text.now.items c.put_octet.new.text.items c.put_quad.new.text.items (octet c.args.moving.now.tos) (octet c.args.moving.now.ttl ++ (word c.args.moving.now.id ++ (word c.args.moving.now.udp_sum ++ (word c.args.moving.now.sn ++ (quad c.args.moving.now.ts))))) c.put_octet.ensures (
    two_puts c.put_octet.new.text.items c.put_octet-2.new.text.items c.put_quad.new.text.items (octet c.args.moving.now.ttl) (word c.args.moving.now.id ++ (word c.args.moving.now.udp_sum ++ (word c.args.moving.now.sn ++ (quad c.args.moving.now.ts)))) c.put_octet-2.ensures (
    two_puts c.put_octet-2.new.text.items c.put_word.new.text.items c.put_quad.new.text.items (word c.args.moving.now.id) (word c.args.moving.now.udp_sum ++ (word c.args.moving.now.sn ++ (quad c.args.moving.now.ts))) c.put_word.ensures (
    two_puts c.put_word.new.text.items c.put_word-2.new.text.items c.put_quad.new.text.items (word c.args.moving.now.udp_sum) (word c.args.moving.now.sn ++ (quad c.args.moving.now.ts)) c.put_word-2.ensures (
    two_puts c.put_word-2.new.text.items c.put_word-3.new.text.items c.put_quad.new.text.items (word c.args.moving.now.sn) (quad c.args.moving.now.ts) c.put_word-3.ensures c.put_quad.ensures))))
