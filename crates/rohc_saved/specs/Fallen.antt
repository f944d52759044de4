-- What is restored of contexts that were saved too long ago: each fallen, as rohc_context defines.
-- Words: fallen_context, fallen_link, fallen_form; as_saved, as_put.
use Rattle.std.specs.Prelude.{ℕ, List, map, Bool, true, false}
use Rattle.std.specs.HashMap.{HashMap}
use Rattle.rohc_context.specs.declared.record.Context.{Context}
use Rattle.rohc_context.specs.Record.{Record, record_of}
use Rattle.rohc_context.specs.Fallen.{fallen}
use Rattle.rohc_saved.specs.declared.form.SavedLink.{SavedLink}
use Rattle.rohc_saved.specs.Form.{Link, Form}

-- a CID with its record, a link and a form, of which each record fell
abbrev pub fallen_context : ℕ × Record → ℕ × Record
fallen_context c = (c.0, fallen c.1)

abbrev pub fallen_link : ℕ × Link → ℕ × Link
fallen_link l = (
  l.0,
  record { size = l.1.size; greatest = l.1.greatest; contexts = map fallen_context l.1.contexts },
)

abbrev pub fallen_form : Form → Form
fallen_form form = record { moment = form.moment; links = map fallen_link form.links }

-- a record as it is put, and a form: fallen, or as it was saved
abbrev pub put_as : (falls : Bool) → Record → Record
put_as false r = r
put_as true r = fallen r

abbrev pub form_as : (falls : Bool) → Form → Form
form_as false form = form
form_as true form = fallen_form form

-- what was read of a link, as its contexts are put
abbrev pub contexts_as : {S : Type 0} → (falls : Bool) → HashMap ℕ Context S → List (ℕ × Record)
contexts_as falls m = map (λ e. (e.0, put_as falls (record_of e.1))) m.entries

abbrev pub link_as : (falls : Bool) → SavedLink → Link
link_as falls l =
    record { size = l.size; greatest = l.greatest; contexts = contexts_as falls l.contexts }

abbrev pub links_as : {S : Type 0} → (falls : Bool) → HashMap ℕ SavedLink S → List (ℕ × Link)
links_as falls m = map (λ e. (e.0, link_as falls e.1)) m.entries
