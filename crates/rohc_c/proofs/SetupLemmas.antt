-- One link more that counts few ranges.
use Rattle.std.proofs.Common.{ℕ, ◌+◌, ◌<◌, List, length, take, get_or}
use Rattle.std.specs.Prelude.{All}
use Rattle.std.proofs.lemmas.List.{take_more}
use Rattle.std.proofs.lemmas.List.Elements.{All-push}
use Rattle.rohc_c.specs.Settings.{HasFewRanges}
use Rattle.rohc_c.specs.declared.link.RohcLink.{RohcLink}

pub few_more : (links : List RohcLink) (n : ℕ) (d : RohcLink) → n < length links → All HasFewRanges (take n links) → HasFewRanges (get_or links n d) → All HasFewRanges (take (n + 1) links)
few_more links n d within few link = rw (take_more links n d within) (All-push HasFewRanges (take n links) (get_or links n d) few link)
