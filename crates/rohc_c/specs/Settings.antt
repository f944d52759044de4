-- Settings as C writes them. Words: setting_of, link_settings; HasFewRanges.
use Rattle.std.specs.Prelude.{◌≤◌, List, map, take, Bool, true, false}
use Rattle.rohc_frame.specs.declared.header.CidKind.{CidKind}
use Rattle.rohc_frame.specs.declared.header.CidKind.TheVariants.{Small, Large}
use Rattle.rohc_context.specs.declared.settings.Mode.{Mode}
use Rattle.rohc_context.specs.declared.settings.Mode.TheVariants.{U, O}
use Rattle.rohc_concentrator.specs.declared.setting.CidRange.{CidRange}
use Rattle.rohc_concentrator.specs.declared.setting.LinkSetting.{LinkSetting}
use Rattle.rohc_c.specs.declared.link.RohcRange.{RohcRange}
use Rattle.rohc_c.specs.declared.link.RohcLink.{RohcLink}

-- O mode or U mode
abbrev pub mode_of : (optimistic : Bool) → Mode
mode_of true = O
mode_of false = U

-- large CIDs or small ones
abbrev pub size_of : (large : Bool) → CidKind
size_of true = Large
size_of false = Small

-- a range of CIDs with its mode
abbrev pub range_of : RohcRange → CidRange
range_of r = record { first = r.first; last = r.last; mode = mode_of r.optimistic }

-- the setting of a link, with the ranges that it counts
abbrev pub setting_of : RohcLink → LinkSetting
setting_of l = record {
  link = l.link;
  settings = record {
    size = size_of l.large;
    max_cid = l.max_cid;
    mode = mode_of l.optimistic;
    k1 = l.k1;
    n1 = l.n1;
    k2 = l.k2;
    n2 = l.n2;
    packet_ms = l.packet_ms;
    static_nack_ms = l.static_nack_ms;
    idle_ms = l.idle_ms;
  };
  ranges = record { items = map range_of (take l.range_count l.ranges) };
}

-- the settings of links, in their order
abbrev pub link_settings : List RohcLink → List LinkSetting
link_settings links = map setting_of links

-- a link counts at most eight ranges; there is room for no more
abbrev pub HasFewRanges : RohcLink → Type 0
HasFewRanges l = l.range_count ≤ 8
