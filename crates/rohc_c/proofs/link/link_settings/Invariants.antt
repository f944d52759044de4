use Rattle.std.proofs.Common.{◌≡◌, take}
use Rattle.rohc_c.specs.Settings.{link_settings}
use Rattle.rohc_c.proofs.link.link_settings.Given as goal

abbrev pub invariant-loop-link : goal.invariant-loop-link
invariant-loop-link l = l.settings.items ≡ link_settings (take l.link-index l.links)
