use Rattle.rohc_frame.specs.declared.refusal.FrameRefusal.{FrameRefusal}
use Rattle.rohc_frame.specs.declared.refusal.FrameRefusal.TheVariants as framing
use Rattle.rohc_context.specs.declared.refusal.Refusal.{Refusal}
use Rattle.rohc_context.specs.declared.refusal.Refusal.TheVariants as refusals

-- a refusal of framing as one of the thirty refusals
abbrev pub refusal_of_framing : FrameRefusal → Refusal
refusal_of_framing framing.Empty = refusals.Empty
refusal_of_framing framing.FeedbackShort = refusals.FeedbackShort
refusal_of_framing framing.AfterAddCid = refusals.AfterAddCid
refusal_of_framing framing.Segment = refusals.Segment
refusal_of_framing framing.ReservedType = refusals.ReservedType
refusal_of_framing framing.AddCidOnLarge = refusals.AddCidOnLarge
refusal_of_framing framing.LargeCid = refusals.LargeCid
refusal_of_framing framing.CidRange = refusals.CidRange
refusal_of_framing framing.NoHeader = refusals.NoHeader
