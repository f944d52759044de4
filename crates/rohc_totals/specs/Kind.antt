-- The kinds of lines. Words: kind_number, refusal_of, is_of_kind; delivers, refuses, for a call.
use Rattle.std.specs.Prelude.{ℕ, ◌+◌, Bool, ◌==◌, Option, Some, None}
use Rattle.rohc_context.specs.Refusal.{number_of}
use Rattle.rohc_context.specs.declared.refusal.Refusal.{Refusal}
use Rattle.rohc_totals.specs.declared.kind.LineKind.{LineKind}
use Rattle.rohc_totals.specs.declared.kind.LineKind.TheVariants.{NoAnswer, BadLine, LongLine, Delivered, Stored, Relayed, Ack, Nack, StaticNack, Plain, OtherFeedback, Refused}
use Rattle.rohc_totals.specs.declared.kind.AnswerLine.{AnswerLine}

-- the table of kinds
abbrev pub kind_number : LineKind → ℕ
kind_number NoAnswer = 0
kind_number BadLine = 1
kind_number LongLine = 2
kind_number Delivered = 3
kind_number Stored = 4
kind_number Relayed = 5
kind_number Ack = 6
kind_number Nack = 7
kind_number StaticNack = 8
kind_number Plain = 9
kind_number OtherFeedback = 10
kind_number (Refused refusal) = 10 + number_of refusal

-- how many kinds there are
abbrev pub kinds : ℕ
kinds = 41

-- the refusal, if the line says one
abbrev pub refusal_of : LineKind → Option Refusal
refusal_of (Refused refusal) = Some refusal
refusal_of NoAnswer = None
refusal_of BadLine = None
refusal_of LongLine = None
refusal_of Delivered = None
refusal_of Stored = None
refusal_of Relayed = None
refusal_of Ack = None
refusal_of Nack = None
refusal_of StaticNack = None
refusal_of Plain = None
refusal_of OtherFeedback = None

-- the line is of the kind with this number
abbrev pub is_of_kind : ℕ → AnswerLine → Bool
is_of_kind k line = kind_number line.kind == k
