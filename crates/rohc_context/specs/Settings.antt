-- The settings of a decompressor. Words: AreGood; Limits, limits.
use Rattle.std.specs.Prelude.{ℕ, ◌≤◌}
use Rattle.rohc_frame.specs.Header.{greatest_cid}
use Rattle.rohc_context.specs.declared.settings.Settings.{Settings}

-- the settings are within their limits
pub record AreGood (s : Settings) : Type 0 where
  pub max_cid : s.max_cid ≤ greatest_cid s.size
  pub k1 : (1 ≤ s.k1) × (s.k1 ≤ s.n1) × (s.n1 ≤ 64)
  pub k2 : (1 ≤ s.k2) × (s.k2 ≤ s.n2) × (s.n2 ≤ 64)
  pub packet_ms : (1 ≤ s.packet_ms) × (s.packet_ms ≤ 60000)
  pub static_nack_ms : s.static_nack_ms ≤ 3600000
  pub idle_ms : s.idle_ms ≤ 86400000

-- the numbers by which a context judges an arrival; the mode isn't among them
pub record Limits : Type 0 where
  pub k1 : ℕ
  pub n1 : ℕ
  pub k2 : ℕ
  pub n2 : ℕ
  pub packet_ms : ℕ
  pub static_nack_ms : ℕ

abbrev pub limits : Settings → Limits
limits s = record {
  k1 = s.k1;
  n1 = s.n1;
  k2 = s.k2;
  n2 = s.n2;
  packet_ms = s.packet_ms;
  static_nack_ms = s.static_nack_ms;
}
