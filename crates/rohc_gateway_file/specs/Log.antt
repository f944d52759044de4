-- Log lines. Words: number_of, name_of a level; format_of a name.
use Rattle.std.specs.Prelude.{ℕ, List, codes, Option, Some, None, if◌then◌else◌}
use Rattle.std.specs.Str.{bytes_eq}
use Rattle.rohc_gateway_file.specs.declared.log.Level.{Level}
use Rattle.rohc_gateway_file.specs.declared.log.Level.TheVariants.{Error, Warning, Info, Debug}
use Rattle.rohc_gateway_file.specs.declared.log.LogFormat.{LogFormat}
use Rattle.rohc_gateway_file.specs.declared.log.LogFormat.TheVariants.{Text, Json}

-- the numbers that the journal knows (sd-daemon(3))
abbrev pub number_of : Level → ℕ
number_of Error = 3
number_of Warning = 4
number_of Info = 6
number_of Debug = 7

abbrev pub name_of : Level → List ℕ
name_of Error = codes "error"
name_of Warning = codes "warning"
name_of Info = codes "info"
name_of Debug = codes "debug"

abbrev pub format_of : List ℕ → Option LogFormat
format_of name =
    if bytes_eq name (codes "text") then Some Text
    else if bytes_eq name (codes "json") then Some Json else None
