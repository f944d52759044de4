-- Facts of an option, and of an ending, where it is known which.
use Rattle.std.proofs.Common.{◌≡◌, refl, subst}
use Rattle.std.specs.Prelude.{Option, Some, None, IfSome}
use Rattle.rohc_frame.specs.Header.{Header}
use Rattle.rohc_context.specs.declared.due.Due.TheVariants.{Nothing}
use Rattle.rohc_context.specs.declared.settings.Mode.{Mode}
use Rattle.rohc_context.specs.declared.settings.Mode.TheVariants.{U, O}
use Rattle.rohc_context.specs.declared.settings.Settings.{Settings}
use Rattle.rohc_context.specs.Due.{sent}
use Rattle.rohc_context.specs.Outcomes.{Ending}
use Rattle.rohc_context.specs.Record.{Record}
use Rattle.rohc_context.specs.Response.{Response}
use Rattle.rohc_context.specs.Step.{Gives}

pub some_holds : {A : Type 0} (r : Option A) (x : A) (P : A → Type 0) → r ≡ Some x → IfSome r P → P x
some_holds r x P e holds = subst (λ o. IfSome o P) e holds

pub nothing_sent : (mode : Mode) (h : Header) → sent mode h Nothing ≡ None
nothing_sent U h = refl
nothing_sent O h = refl

pub gives : (s : Settings) (h : Header) (ending by : Ending) (a : Response) (x : Option Record) → ending ≡ by → Gives s h ending a x → Gives s h by a x
gives s h ending by a x e p = subst (λ k. Gives s h k a x) e p
