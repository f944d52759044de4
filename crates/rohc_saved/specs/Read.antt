-- What was read, as the definitions see it. Words: link_in, links_in, form_in.
use Rattle.std.specs.Prelude.{ℕ, List, map}
use Rattle.std.specs.HashMap.{HashMap}
use Rattle.rohc_saved.specs.declared.form.SavedLink.{SavedLink}
use Rattle.rohc_saved.specs.declared.form.SavedForm.{SavedForm}
use Rattle.rohc_saved.specs.Form.{Link, Form, contexts_in}

abbrev pub link_in : SavedLink → Link
link_in l = record { size = l.size; greatest = l.greatest; contexts = contexts_in l.contexts }

abbrev pub links_in : {S : Type 0} → HashMap ℕ SavedLink S → List (ℕ × Link)
links_in m = map (λ e. (e.0, link_in e.1)) m.entries

abbrev pub form_in : SavedForm → Form
form_in f = record { moment = f.moment; links = links_in f.links }
