-- Why an octet or a value of an extension 3 is refused, if it is (RFC 3095 5.7.5).
use Rattle.std.specs.Prelude.{ℕ, Bool, true, false, ◌==◌, ◌&&◌, not, if◌then◌else◌, Option, Some, None}
use Rattle.rohc_forms.specs.declared.form.FormKind.{FormKind}
use Rattle.rohc_forms.specs.declared.form.FormKind.TheVariants.{Uo0, Uo1, Uo1Id, Uo1Ts, Uor2, Uor2Id, Uor2Ts}
use Rattle.rohc_forms.specs.declared.refusal.FormRefusal.{FormRefusal}
use Rattle.rohc_forms.specs.declared.refusal.FormRefusal.TheVariants.{Protocol, ExtensionList, Csrc, ZeroStride, ReliableMode, OuterHeader, NoStride, RndInUo1, IpIdTwice}
use Rattle.rohc_forms.specs.Table.{IPX, RND, IP2, Mode, CSRC, number_in, has}

-- the refusal, if the test holds
abbrev pub refused_if : Bool → FormRefusal → Option FormRefusal
refused_if holds refusal = if holds then Some refusal else None

abbrev pub is_uo1_id : FormKind → Bool
is_uo1_id Uo0 = false
is_uo1_id Uo1 = false
is_uo1_id Uo1Id = true
is_uo1_id Uo1Ts = false
is_uo1_id Uor2 = false
is_uo1_id Uor2Id = false
is_uo1_id Uor2Ts = false

-- why the ip octet is refused
abbrev pub ip_fault : FormKind → ℕ → Option FormRefusal
ip_fault kind octet =
    if has IPX octet then Some ExtensionList
    else if is_uo1_id kind && has RND octet then Some RndInUo1
    else refused_if (has IP2 octet) OuterHeader

-- flag I, with the RND in force
abbrev pub twice_fault : Bool → Bool → Option FormRefusal
twice_fault offset rnd = refused_if (offset && rnd) IpIdTwice

-- 17 is UDP
abbrev pub protocol_fault : ℕ → Option FormRefusal
protocol_fault octet = refused_if (not (octet == 17)) Protocol

-- why the rtp octet is refused; mode 3 is the reliable mode
abbrev pub rtp_fault : ℕ → Option FormRefusal
rtp_fault octet = if number_in Mode octet == 3 then Some ReliableMode else refused_if (has CSRC octet) Csrc

abbrev pub stride_fault : ℕ → Option FormRefusal
stride_fault stride = refused_if (stride == 0) ZeroStride

-- Tsc is set, and no stride is in force
abbrev pub no_stride_fault : Bool → Bool → Option FormRefusal
no_stride_fault scaled in_force = refused_if (scaled && not in_force) NoStride
