-- The names of faults. Words: fault_name; frame_fault_name.
use Rattle.std.specs.Prelude.{ℕ, List, codes}
use Rattle.rohc_capture.specs.declared.fault.FaultKind.{FaultKind}
use Rattle.rohc_capture.specs.declared.fault.FaultKind.TheVariants as faults
use Rattle.rohc_capture.specs.declared.fault.FrameFault.{FrameFault}
use Rattle.rohc_capture.specs.declared.fault.FrameFault.TheVariants as frames

-- the name of a capture's fault
abbrev pub fault_name : FaultKind → List ℕ
fault_name faults.NoMemory = codes "NoMemory"
fault_name faults.Read = codes "Read"
fault_name faults.NotACapture = codes "NotACapture"
fault_name faults.CutOff = codes "CutOff"
fault_name faults.TooLong = codes "TooLong"
fault_name faults.BlockLength = codes "BlockLength"
fault_name faults.ByteOrder = codes "ByteOrder"
fault_name faults.NoInterface = codes "NoInterface"
fault_name faults.TooManyInterfaces = codes "TooManyInterfaces"

-- the name of a frame's fault
abbrev pub frame_fault_name : FrameFault → List ℕ
frame_fault_name frames.LinkType = codes "LinkType"
frame_fault_name frames.NotWhole = codes "NotWhole"
frame_fault_name frames.Short = codes "Short"
frame_fault_name frames.Tags = codes "Tags"
frame_fault_name frames.Protocol = codes "Protocol"
frame_fault_name frames.IpHeader = codes "IpHeader"
frame_fault_name frames.IpLength = codes "IpLength"
frame_fault_name frames.Fragment = codes "Fragment"
frame_fault_name frames.NotUdp = codes "NotUdp"
frame_fault_name frames.UdpLength = codes "UdpLength"
frame_fault_name frames.Offset = codes "Offset"
