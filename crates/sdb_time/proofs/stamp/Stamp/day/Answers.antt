use Rattle.std.proofs.Common.{◌≡◌, ◌≤◌, pos, ◌∙◌, ap, w8, w16, w64, refl, arith}
use Rattle.std.proofs.lemmas.Int.{ints}
use Rattle.jiff_core.specs.Calendar.{days_from_civil, days_in_month}
use mir.Val.{to_z, of_z}
use Rattle.sdb_time.proofs.stamp.Stamp.day.Goals as goal

pub returns-in-Ok-clause-some : goal.returns-in-Ok-clause-some
returns-in-Ok-clause-some c =
    let s = c.args.self.now in
    let date = c.in-Ok.date in
    let year : to_z w16 s.year ≡ pos s.year = omega (arith, ints, s.year_fits) in
    let month : to_z w8 s.month ≡ pos s.month = omega (arith, ints, s.month_fits) in
    let day : to_z w8 s.day ≡ pos s.day = omega (arith, ints, s.day_fits) in
    let is_date = rw (year, month, day) at (c.in-Ok.ensures.succeeds.0 refl) in
    let same_year = c.in-Ok.ensures.value.0 ∙ year in
    let same_month : date.month ≡ s.month = let e = c.in-Ok.ensures.value.1 ∙ month in cc in
    let same_day : date.day ≡ s.day = let e = c.in-Ok.ensures.value.2 ∙ day in cc in
    let number : to_z w64 (of_z w64 c.from.result) ≡ c.to_unix_epoch_day.result = omega (arith, ints, c.to_unix_epoch_day.ensures.bound.0, c.to_unix_epoch_day.ensures.bound.1) in
    let value : c.to_unix_epoch_day.result ≡ days_from_civil (pos s.year) s.month s.day = c.to_unix_epoch_day.ensures.value
    ∙ ap (λ d. days_from_civil d.year d.month d.day) c.to_plain.ensures
    ∙ (λ i. days_from_civil (same_year i) (same_month i) (same_day i)) in
    let first : 1 ≤ s.month = omega (arith, ints, is_date.1.0) in
    let last : s.month ≤ 12 = omega (arith, ints, is_date.1.1) in
    let first_day : 1 ≤ s.day = omega (arith, ints, is_date.2.0) in
    let last_day : s.day ≤ days_in_month (pos s.year) s.month = omega (arith, ints, is_date.2.1) in
    ((is_date.0, (first, last), (first_day, last_day)), number ∙ value, rw number c.to_unix_epoch_day.ensures.bound)
