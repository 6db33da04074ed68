-- What shows and what prints the date and time that the calendar says.
use Rattle.std.specs.Prelude.{◌≡◌, pos}
use Rattle.jiff_core.specs.declared.civil.datetime.DateTime.{DateTime}
use Rattle.jiff_core.specs.Date.{weekday_of}
use Rattle.sign_time.specs.declared.civil.CivilFields.{CivilFields}
use Rattle.sign_time.specs.Calendar.{Civil}
use Rattle.sign_time.specs.MomentText.{weekday_name, month_name}

-- a date and time of `jiff`
pub record ShowsCivil (shown : DateTime) (c : Civil) : Type 0 where
  pub year : shown.date.year ≡ pos c.year
  pub month : shown.date.month ≡ c.month
  pub day : shown.date.day ≡ c.day
  pub weekday : weekday_of shown.date ≡ c.weekday
  pub hour : shown.time.hour ≡ c.hour
  pub minute : shown.time.minute ≡ c.minute
  pub second : shown.time.second ≡ c.second

-- the fields of a text
pub record PrintsCivil (fields : CivilFields) (c : Civil) : Type 0 where
  pub year : fields.year.0 ≡ pos c.year
  pub month : fields.month.0 ≡ c.month
  pub month_name : fields.month_name.now ≡ month_name c.month
  pub day : fields.day.0 ≡ c.day
  pub weekday : fields.weekday.now ≡ weekday_name c.weekday
  pub hour : fields.hour.0 ≡ c.hour
  pub minute : fields.minute.0 ≡ c.minute
  pub second : fields.second.0 ≡ c.second
