use Rattle.rohc_forms.proofs.FormatLemmas.{fits_one, fits_one_extension, begins_with_11}
use Rattle.rohc_forms.proofs.CountLemmas.{counts_octets, counts_extension}
use Rattle.rohc_forms.proofs.laws.one_format.Goals as goal

pub returns-clause-packet : goal.returns-clause-packet
returns-clause-packet c = fits_one

pub returns-clause-extension : goal.returns-clause-extension
returns-clause-extension c = fits_one_extension

pub returns-clause-counted : goal.returns-clause-counted
returns-clause-counted c = counts_octets

pub returns-clause-extension_3 : goal.returns-clause-extension_3
returns-clause-extension_3 c = begins_with_11

pub returns-clause-counted_extension : goal.returns-clause-counted_extension
returns-clause-counted_extension c = counts_extension
