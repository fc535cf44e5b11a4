-- The functions that read a moment's text give what the grammar says, in both directions.
use Rattle.std.proofs.Common.{◌≡◌, ℕ, suc, ◌≤◌, Bool, true, false, ◌==◌, ◌||◌, List, [], ◌∷◌, ◌++◌, length, take, drop, Some, None, refl, ap, sym, ◌∙◌, subst, ⊎_elim, arith, append-nil, length-take, take-append-drop, one-add}
use Rattle.std.specs.Prelude.{nat_lt, take_while}
use Rattle.std.specs.Char.{is_ascii_digit}
use Rattle.std.specs.List.{list_all, prefix_len}
use Rattle.std.proofs.lemmas.Bool.{cond-true, cond-false, cases_Bool, and_from}
use Rattle.std.proofs.lemmas.Bool.Decides.{nat_tests}
use Rattle.std.proofs.lemmas.List.{drop_min}
use Rattle.std.proofs.Math.Seq.{drop-append_seam}
use Rattle.sdb_time.specs.Moments.{IsFraction, IsOffset, IsZone, Spells}
use Rattle.sdb_time.specs.Moments.IsFraction.{whole, parts_of_second}
use Rattle.sdb_time.specs.Moments.IsZone.{unsaid, utc, ahead, behind}
use Rattle.sdb_time.specs.Parts.{Parts, Zone}
use Rattle.sdb_time.specs.Reading as reading
use Rattle.sdb_time.specs.Reading.{digits_len, two_digits, after_byte, field, four_digits, after_fraction, offset, zone, parts}
use Rattle.sdb_base.proofs.Cases.{both}
use Rattle.sdb_base.proofs.OptionLemmas.{on_some, on_other}
use Rattle.sdb_time.proofs.Numbers.{two_front, two_complete, number_of_two, four_sound, four_complete, after_byte_sound, after_byte_again, field_sound, field_complete}

-- ---- fractions

front_all : (p : ℕ → Bool) (text : List ℕ) → list_all p (take_while p text) ≡ true
front_all p [] = refl
front_all p (b ∷ text) =
    ⊎_elim
    (λ (passes : p b ≡ true).
    let long : prefix_len p (b ∷ text) ≡ suc (prefix_len p text) = cond-true _ _ _ passes ∙ one-add (prefix_len p text) in
    ap (λ k. list_all p (take k (b ∷ text))) long ∙ and_from _ _ passes (front_all p text))
    (λ (stops : p b ≡ false). ap (λ k. list_all p (take k (b ∷ text))) (cond-false _ _ _ stops))
    (cases_Bool (p b))

front_again : (digits rest : List ℕ) → list_all is_ascii_digit digits ≡ true → prefix_len is_ascii_digit rest ≡ 0 → take_while is_ascii_digit (digits ++ rest) ≡ digits
front_again [] rest all stops = rw stops refl
front_again (d ∷ digits) rest all stops =
    let h = both (is_ascii_digit d) (list_all is_ascii_digit digits) all in
    rw (h.0, one-add) (ap (λ t. d ∷ t) (front_again digits rest h.1 stops))

front_split : (n : ℕ) (text : List ℕ) → text ≡ take n text ++ drop (length (take n text)) text
front_split n text = rw (length-take n text, drop_min n text) (sym (take-append-drop n text))

fraction_sound : (text rest : List ℕ) → after_fraction text ≡ Some rest → (fraction : List ℕ) × IsFraction fraction × (text ≡ fraction ++ rest)
unfolding after_fraction
fraction_sound [] rest e = ([], whole, cc)
fraction_sound (b ∷ text) rest e =
    ⊎_elim
    (λ dot.
    let many = digits_len text in
    let digits = take_while is_ascii_digit text in
    let h = on_other (many == 0 || nat_lt 9 many) (drop many text) rest (rw dot at e) in
    let some : 1 ≤ length digits = grind (arith, nat_tests) in
    let few : length digits ≤ 9 = grind (arith, nat_tests) in
    let same : b ≡ 46 = grind (arith, nat_tests) in
    let split = front_split (prefix_len is_ascii_digit text) text in
    (46 ∷ digits, parts_of_second digits (front_all is_ascii_digit text) some few, ap (λ c. c ∷ text) same ∙ ap (λ t. 46 ∷ t) (split ∙ ap (λ t. digits ++ t) h.1)))
    (λ other. let h : Some (b ∷ text) ≡ Some rest = rw other at e in ([], whole, cc))
    (cases_Bool (b == 46))

-- neither a fraction nor more digits begin here
record EndsFraction (text : List ℕ) : Type 0 where
  pub stops : prefix_len is_ascii_digit text ≡ 0
  pub plain : after_fraction text ≡ Some text

zone_ends_fraction : (text : List ℕ) (z : Zone) → IsZone text z → EndsFraction text
unfolding after_fraction
zone_ends_fraction _ _ unsaid = record { stops = refl; plain = refl }
zone_ends_fraction _ _ utc = record { stops = refl; plain = refl }
zone_ends_fraction _ _ (ahead text hours minutes h) = record { stops = refl; plain = refl }
zone_ends_fraction _ _ (behind text hours minutes h) = record { stops = refl; plain = refl }

fraction_complete : (fraction rest : List ℕ) → IsFraction fraction → EndsFraction rest → after_fraction (fraction ++ rest) ≡ Some rest
unfolding after_fraction
fraction_complete _ rest whole ends = ends.plain
fraction_complete _ rest (parts_of_second digits all some few) ends =
    let same : digits_len (digits ++ rest) ≡ length digits = ap length (front_again digits rest all ends.stops) in
    let no : (length digits == 0 || nat_lt 9 (length digits)) ≡ false = grind (arith, nat_tests) in
    rw (same, no, drop-append_seam digits rest) refl

-- ---- zones

whole_sound : (found : Zone) (text : List ℕ) (z : Zone) → reading.whole found text ≡ Some z → (text ≡ []) × (found ≡ z)
whole_sound found [] z e = (refl, cc)
whole_sound found (b ∷ text) z e = absurd cc

-- the numbers of an offset
record HasOffset (is_behind : Bool) (text : List ℕ) (z : Zone) : Type 0 where
  pub hours : ℕ
  pub minutes : ℕ
  pub offset_is : IsOffset text hours minutes
  pub zone_is : record { is_behind = is_behind; hours = hours; minutes = minutes } ≡ z

offset_sound : (is_behind : Bool) (text : List ℕ) (z : Zone) → offset is_behind text ≡ Some z → HasOffset is_behind text z
unfolding offset
offset_sound is_behind text z e =
    on_some (field 58 text) _ z e (λ hours is_hours e1.
    on_some (two_digits hours.1) _ z e1 (λ minutes is_minutes e2.
    let h = field_sound 58 text hours is_hours in
    let m = number_of_two hours.1 minutes.0 minutes.1 (two_front hours.1 minutes is_minutes) in
    let w = whole_sound _ minutes.1 z e2 in
    let tail : hours.1 ≡ m.0 = m.2 ∙ ap (λ t. m.0 ++ t) w.0 ∙ append-nil m.0 in
    record {
      hours = hours.0;
      minutes = minutes.0;
      offset_is = record { hour = h.0; minute = m.0; spelled = h.2 ∙ ap (λ t. h.0 ++ (58 ∷ t)) tail; hour_is = h.1; minute_is = m.1 };
      zone_is = w.1;
    }))

offset_complete : (is_behind : Bool) (text : List ℕ) (hours minutes : ℕ) → IsOffset text hours minutes → offset is_behind text ≡ Some (record { is_behind = is_behind; hours = hours; minutes = minutes })
unfolding offset
offset_complete is_behind text hours minutes h =
    let last : two_digits h.minute ≡ Some (minutes, []) = subst (λ t. two_digits t ≡ Some (minutes, [])) (append-nil h.minute) (two_complete h.minute [] minutes h.minute_is) in
    rw (h.spelled, field_complete 58 h.hour h.minute hours h.hour_is, last) refl

zone_sound : (text : List ℕ) (z : Zone) → zone text ≡ Some z → IsZone text z
unfolding zone
zone_sound [] z e = let same : record { is_behind = false; hours = 0; minutes = 0 } ≡ z = cc in subst (IsZone []) same unsaid
zone_sound (b ∷ text) z e =
    ⊎_elim
    (λ (plus : (b == 43) ≡ true).
    let h = offset_sound false text z (rw plus at e) in
    let same : b ≡ 43 = grind (arith, nat_tests) in
    rw same (subst (IsZone (43 ∷ text)) h.zone_is (ahead text h.hours h.minutes h.offset_is)))
    (λ (no_plus : (b == 43) ≡ false). ⊎_elim
    (λ (minus : (b == 45) ≡ true).
    let h = offset_sound true text z (rw (no_plus, minus) at e) in
    let same : b ≡ 45 = grind (arith, nat_tests) in
    rw same (subst (IsZone (45 ∷ text)) h.zone_is (behind text h.hours h.minutes h.offset_is)))
    (λ (no_minus : (b == 45) ≡ false). ⊎_elim
    (λ (letter : (b == 90) ≡ true).
    let h = whole_sound _ text z (rw (no_plus, no_minus, letter) at e) in
    let same : b ≡ 90 = grind (arith, nat_tests) in
    rw same (subst (λ t. IsZone (90 ∷ t) z) (sym h.0) (subst (IsZone (90 ∷ [])) h.1 utc)))
    (λ (no_letter : (b == 90) ≡ false). let h : None ≡ Some z = rw (no_plus, no_minus, no_letter) at e in absurd cc)
    (cases_Bool (b == 90)))
    (cases_Bool (b == 45)))
    (cases_Bool (b == 43))

zone_complete : (text : List ℕ) (z : Zone) → IsZone text z → zone text ≡ Some z
unfolding zone
zone_complete _ _ unsaid = refl
zone_complete _ _ utc = refl
zone_complete _ _ (ahead text hours minutes h) = offset_complete false text hours minutes h
zone_complete _ _ (behind text hours minutes h) = offset_complete true text hours minutes h

-- ---- whole texts

pub parts_complete : (text : List ℕ) (p : Parts) → Spells text p → parts text ≡ Some p
unfolding parts
parts_complete text p s =
    let ends = zone_ends_fraction s.zone p.zone s.zone_is in
    rw (
      s.spelled,
      four_complete s.year _ p.year s.year_is,
      after_byte_again 45 _,
      field_complete 45 s.month _ p.month s.month_is,
      field_complete 84 s.day _ p.day s.day_is,
      field_complete 58 s.hour _ p.hour s.hour_is,
      field_complete 58 s.minute _ p.minute s.minute_is,
      two_complete s.second _ p.second s.second_is,
      fraction_complete s.fraction s.zone s.fraction_is ends,
      zone_complete s.zone p.zone s.zone_is,
    )
    refl

pub parts_sound : (text : List ℕ) (p : Parts) → parts text ≡ Some p → Spells text p
unfolding parts
parts_sound text p e =
    on_some (four_digits text) _ p e (λ year is_year e1.
    on_some (after_byte 45 year.1) _ p e1 (λ month_text is_dash e2.
    on_some (field 45 month_text) _ p e2 (λ month is_month e3.
    on_some (field 84 month.1) _ p e3 (λ day is_day e4.
    on_some (field 58 day.1) _ p e4 (λ hour is_hour e5.
    on_some (field 58 hour.1) _ p e5 (λ minute is_minute e6.
    on_some (two_digits minute.1) _ p e6 (λ second is_second e7.
    on_some (after_fraction second.1) _ p e7 (λ zone_text is_fraction e8.
    on_some (zone zone_text) _ p e8 (λ distance is_zone e9.
    let y = four_sound text year is_year in
    let dash = after_byte_sound 45 year.1 month_text is_dash in
    let mo = field_sound 45 month_text month is_month in
    let d = field_sound 84 month.1 day is_day in
    let h = field_sound 58 day.1 hour is_hour in
    let mi = field_sound 58 hour.1 minute is_minute in
    let s = number_of_two minute.1 second.0 second.1 (two_front minute.1 second is_second) in
    let f = fraction_sound second.1 zone_text is_fraction in
    let q : Parts = record { year = year.0; month = month.0; day = day.0; hour = hour.0; minute = minute.0; second = second.0; zone = distance } in
    let same : q ≡ p = cc in
    let clock = h.2 ∙ ap (λ t. h.0 ++ (58 ∷ t)) (mi.2 ∙ ap (λ t. mi.0 ++ (58 ∷ t)) (s.2 ∙ ap (λ t. s.0 ++ t) f.2)) in
    let date = mo.2 ∙ ap (λ t. mo.0 ++ (45 ∷ t)) (d.2 ∙ ap (λ t. d.0 ++ (84 ∷ t)) clock) in
    subst (Spells text) same (record {
      year = y.0;
      month = mo.0;
      day = d.0;
      hour = h.0;
      minute = mi.0;
      second = s.0;
      fraction = f.0;
      zone = zone_text;
      spelled = y.2 ∙ ap (λ t. y.0 ++ t) (dash ∙ ap (λ t. 45 ∷ t) date);
      year_is = y.1;
      month_is = mo.1;
      day_is = d.1;
      hour_is = h.1;
      minute_is = mi.1;
      second_is = s.1;
      fraction_is = f.1;
      zone_is = zone_sound zone_text distance is_zone;
    }))))))))))
