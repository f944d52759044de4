-- Dates of the Gregorian calendar. Words: is_leap, days_in a month; IsDate; days_to; seconds_to, IsCivil.
use Rattle.std.specs.Prelude.{◌≤◌, ◌<◌, ℕ, ◌+◌, ◌*◌, ◌-◌, ◌/◌, ◌%◌, Bool, nat_lt, ◌==◌, ◌&&◌, ◌||◌, not, if◌then◌else◌}
use Rattle.rohc_gateway_file.specs.declared.civil.Civil.{Civil}

-- each fourth year is a leap year, but of the centuries only each fourth
abbrev pub is_leap : ℕ → Bool
is_leap year = year % 4 == 0 && (not (year % 100 == 0) || year % 400 == 0)

abbrev pub days_in : (year month : ℕ) → ℕ
days_in year month =
    if month == 2 then (if is_leap year then 29 else 28)
    else if month == 4 || month == 6 || month == 9 || month == 11 then 30 else 31

-- a day that there is, of the years from 1970 to 9999
pub record IsDate (year month day : ℕ) : Type 0 where
  pub year-first : 1970 ≤ year
  pub year-last : year ≤ 9999
  pub month-first : 1 ≤ month
  pub month-last : month ≤ 12
  pub day-first : 1 ≤ day
  pub day-last : day ≤ days_in year month

-- the days from the first of March of the year 0 to a date; years begin in March here, with month 0
abbrev pub days_from_march : (year month day : ℕ) → ℕ
days_from_march year month day =
    365 * year + year / 4 - year / 100 + year / 400 + (153 * month + 2) / 5 + (day - 1)

-- the days from the first of January 1970 to a date; January and February belong to the year before
abbrev pub days_to : (year month day : ℕ) → ℕ
days_to year month day =
    (if nat_lt 2 month then days_from_march year (month - 3) day
    else days_from_march (year - 1) (month + 9) day) - 719468

-- the seconds from the beginning of 1970 to a date and a time of day
abbrev pub seconds_to : Civil → ℕ
seconds_to c = days_to c.year c.month c.day * 86400 + c.hour * 3600 + c.minute * 60 + c.second

-- a date that there is, and a time of day
pub record IsCivil (c : Civil) : Type 0 where
  pub date : IsDate c.year c.month c.day
  pub hour : c.hour < 24
  pub minute : c.minute < 60
  pub second : c.second < 60
