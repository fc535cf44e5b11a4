-- What contracts see of the numbers as read.
use Rattle.sdb_time.specs.Parts as words
use Rattle.sdb_time.specs.declared.zone.Zone.{Zone}
use Rattle.sdb_time.specs.declared.stamp.Stamp.{Stamp}

-- the zone that a value of the program stands for
abbrev pub zone_of : Zone → words.Zone
zone_of z = record { is_behind = z.is_behind; hours = z.hours; minutes = z.minutes }

-- the numbers that a value of the program stands for
abbrev pub parts_of : Stamp → words.Parts
parts_of s = record {
  year = s.year;
  month = s.month;
  day = s.day;
  hour = s.hour;
  minute = s.minute;
  second = s.second;
  zone = zone_of s.zone;
}
