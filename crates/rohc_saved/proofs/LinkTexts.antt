-- The octets of a link.
use Rattle.std.proofs.Common.{◌≡◌, ◌++◌, ℕ, List, flat_map, sym, ap}
use Rattle.rohc_context.specs.Record.{Record}
use Rattle.rohc_concentrator.specs.declared.concentrator.Concentrator.{Concentrator}
use Rattle.rohc_concentrator.specs.declared.setting.LinkSetting.{LinkSetting}
use Rattle.rohc_saved.specs.Form.{Link, contexts_of, saved_link_of, head_text, context_text, link_text}

-- what is saved of a link, if these are its contexts
abbrev pub link_with : LinkSetting → List (ℕ × Record) → ℕ × Link
link_with s contexts = (s.link, record { size = s.settings.size; greatest = s.settings.max_cid; contexts = contexts })

-- its octets are those of its head, and those of its contexts behind
pub link_by : (k : Concentrator) (s : LinkSetting) (contexts : List (ℕ × Record)) → contexts_of k s.link ≡ contexts
    → head_text (link_with s contexts) ++ flat_map context_text contexts ≡ link_text (saved_link_of k s)
unfolding link_text
link_by k s contexts is = ap (λ cs. head_text (link_with s cs) ++ flat_map context_text cs) (sym is)
