-- The octets of what is read and written by name, where those of the file or the stream are known. Words:
-- source_remaining, target_contents.
use Rattle.std.specs.Prelude.{ℕ, List, Option, None}
use Rattle.std.specs.Io.Buffered.{writer_contents}
use Rattle.rohctl_ground.specs.declared.streams.Source.{Source}
use Rattle.rohctl_ground.specs.declared.streams.Source.TheVariants as sources
use Rattle.rohctl_ground.specs.declared.streams.Target.{Target}
use Rattle.rohctl_ground.specs.declared.streams.Target.TheVariants as targets

-- the octets that a source has left: those of the file, or of standard input
abbrev pub source_remaining : {F I : Type 0} → (F → Option (List ℕ)) → (I → Option (List ℕ)) → Source F I →
    Option (List ℕ)
source_remaining file input (sources.File f) = file f
source_remaining file input (sources.Input i) = input i

-- The octets that a target holds: those of the file or of standard output, and then the buffer. Nothing is
-- known of a target that drops what is written.
abbrev pub target_contents : {F P : Type 0} → (F → Option (List ℕ)) → (P → Option (List ℕ)) → Target F P →
    Option (List ℕ)
target_contents file output (targets.File f) = writer_contents (λ n. file n.writer) f
target_contents file output (targets.Output p) = writer_contents (λ n. output n.writer) p
target_contents file output targets.Nothing = None
