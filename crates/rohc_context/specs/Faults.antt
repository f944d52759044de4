-- The fault for a refusal of a packet: a check that doesn't match is unfit, and any other refusal keeps its
-- name.
-- Words: fault_of_chain, fault_of_form.
use Rattle.rohc_chain.specs.declared.refusal.ChainRefusal.{ChainRefusal}
use Rattle.rohc_chain.specs.declared.refusal.ChainRefusal.TheVariants as chains
use Rattle.rohc_forms.specs.declared.refusal.FormRefusal.{FormRefusal}
use Rattle.rohc_forms.specs.declared.refusal.FormRefusal.TheVariants as forms
use Rattle.rohc_context.specs.declared.fault.Fault.{Fault}
use Rattle.rohc_context.specs.declared.fault.Fault.TheVariants.{Unfit, Refused}
use Rattle.rohc_context.specs.declared.refusal.Refusal.TheVariants as refusals

abbrev pub fault_of_chain : ChainRefusal → Fault
fault_of_chain chains.Profile = Refused refusals.Profile
fault_of_chain chains.ProfileChange = Refused refusals.ProfileChange
fault_of_chain chains.Truncated = Refused refusals.Truncated
fault_of_chain chains.IpVersion = Refused refusals.IpVersion
fault_of_chain chains.Protocol = Refused refusals.Protocol
fault_of_chain chains.ExtensionList = Refused refusals.ExtensionList
fault_of_chain chains.RtpVersion = Refused refusals.RtpVersion
fault_of_chain chains.Csrc = Refused refusals.Csrc
fault_of_chain chains.ZeroStride = Refused refusals.ZeroStride
fault_of_chain chains.ReliableMode = Refused refusals.ReliableMode
fault_of_chain chains.Trailing = Refused refusals.Trailing
fault_of_chain chains.TooLong = Refused refusals.TooLong
fault_of_chain chains.Check = Unfit

abbrev pub fault_of_form : FormRefusal → Fault
fault_of_form forms.Truncated = Refused refusals.Truncated
fault_of_form forms.Protocol = Refused refusals.Protocol
fault_of_form forms.ExtensionList = Refused refusals.ExtensionList
fault_of_form forms.Csrc = Refused refusals.Csrc
fault_of_form forms.ZeroStride = Refused refusals.ZeroStride
fault_of_form forms.ReliableMode = Refused refusals.ReliableMode
fault_of_form forms.OuterHeader = Refused refusals.OuterHeader
fault_of_form forms.NoStride = Refused refusals.NoStride
fault_of_form forms.RndInUo1 = Refused refusals.RndInUo1
fault_of_form forms.IpIdTwice = Refused refusals.IpIdTwice
