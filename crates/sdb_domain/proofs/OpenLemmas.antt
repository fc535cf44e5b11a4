-- A domain that is open to edits: what its log covers, and its newest edit taken back.
use Rattle.std.proofs.Common.{◌≡◌, Bool, true, false, ◌||◌, ◌&&◌, List, [], ◌∷◌, ◌++◌, refl, sym, ap, ◌∙◌, subst, true≢false}
use Rattle.std.specs.BTreeMap.{is_at}
use Rattle.std.proofs.lemmas.List.Folds.{list_any-append}
use Rattle.std.proofs.lemmas.Map.Lookups.{exact_bytes}
use Rattle.sdb_base.specs.Texts.{text_cmp}
use Rattle.sdb_base.specs.Entries.{found}
use Rattle.sdb_base.proofs.Cases.{by_bool}
use Rattle.sdb_base.proofs.EntryLemmas.{key_at}
use Rattle.sdb_domain.specs.declared.held.RowWas.{RowWas}
use Rattle.sdb_domain.specs.Held.{Kept, IsClean}
use Rattle.sdb_domain.specs.Names.{is_logged}
use Rattle.sdb_domain.specs.Undo.{row_undone, FitsRow, FitsLast, empties, ChangesOnly, Sweeps, row_emptied, name_logged, Covers, before_last, without_last, last_undone}

true_right : (a b : Bool) → b ≡ true → (a || b) ≡ true
true_right true b h = refl
true_right false b h = h

true_left : (a b : Bool) → a ≡ true → (a || b) ≡ true
true_left true b h = refl
true_left false b h = absurd (true≢false (sym h))

rest_true : (a b : Bool) → a ≡ false → (a || b) ≡ true → b ≡ true
rest_true true b f h = absurd (true≢false f)
rest_true false b f h = h

both_true : (a b : Bool) → a ≡ true → b ≡ true → (a && b) ≡ true
both_true true b f h = h
both_true false b f h = absurd (true≢false (sym f))

-- ---- the newest edit

pub before_more : (log : List RowWas) (was : RowWas) (kept : Kept) → before_last (log ++ was ∷ []) kept ≡ row_undone kept was
before_more [] was kept = refl
before_more (one ∷ []) was kept = refl
before_more (one ∷ next ∷ log) was kept = before_more (next ∷ log) was kept

pub without_more : (log : List RowWas) (was : RowWas) → without_last (log ++ was ∷ []) ≡ log
without_more [] was = refl
without_more (one ∷ []) was = refl
without_more (one ∷ next ∷ log) was = ap (λ l. one ∷ l) (without_more (next ∷ log) was)

pub fits_more : (log : List RowWas) (was : RowWas) (kept : Kept) → FitsRow kept was → FitsLast (log ++ was ∷ []) kept
fits_more [] was kept h = h
fits_more (one ∷ []) was kept h = h
fits_more (one ∷ next ∷ log) was kept h = fits_more (next ∷ log) was kept h

pub fits_last : (log : List RowWas) (was : RowWas) (kept : Kept) → FitsLast (log ++ was ∷ []) kept → FitsRow kept was
fits_last [] was kept h = h
fits_last (one ∷ []) was kept h = h
fits_last (one ∷ next ∷ log) was kept h = fits_last (next ∷ log) was kept h

pub last_more : (kept : Kept) (log new : List RowWas) (was : RowWas) → new ≡ log ++ was ∷ [] → last_undone (record { kept = kept; log = new }) ≡ record { kept = row_undone kept was; log = log }
last_more kept log new was e =
    ap (λ l. last_undone (record { kept = kept; log = l })) e ∙ (λ i. record { kept = before_more log was kept i; log = without_more log was i })

-- ---- what is hidden is logged

covered_none : (kept : Kept) → IsClean kept → Covers kept []
covered_none kept clean = record { rows = λ q h. absurd (clean.rows q h); names = λ q h. absurd (clean.names q h) }

pub covered_clean : (kept : Kept) (log : List RowWas) → IsClean kept → log ≡ [] → Covers kept log
covered_clean kept log clean e = subst (Covers kept) (sym e) (covered_none kept clean)

pub covered_more : (old kept : Kept) (log new : List RowWas) (was : RowWas) → Covers old log → ChangesOnly old kept was → new ≡ log ++ was ∷ [] → Covers kept new
covered_more old kept log new was covers only e = subst (Covers kept) (sym e) (record {
  rows = λ q h.
      list_any-append (empties q) log (was ∷ [])
      ∙ by_bool (is_at (text_cmp q) was.name)
      (λ at.
      let emptied : was.emptied ≡ true = only.emptied.1 (ap (found text_cmp kept.rows) (sym (key_at exact_bytes q was.name at)) ∙ h) in
      true_right (row_emptied q log) (empties q was || false) (true_left (empties q was) false (both_true (is_at (text_cmp q) was.name) was.emptied at emptied)))
      (λ off. true_left (row_emptied q log) (empties q was || false) (covers.rows q (sym (only.rows q off) ∙ h)));
  names = λ q h.
      list_any-append (λ w. is_logged q w.names.items) log (was ∷ [])
      ∙ by_bool (is_logged q was.names.items)
      (λ at. true_right (name_logged q log) (is_logged q was.names.items || false) (true_left (is_logged q was.names.items) false at))
      (λ off. true_left (name_logged q log) (is_logged q was.names.items || false) (covers.names q (sym (only.names q off) ∙ h)));
})

pub covered_rest : (old kept : Kept) (was : RowWas) (log : List RowWas) → Covers old (was ∷ log) → Sweeps old kept was → Covers kept log
covered_rest old kept was log covers sweeps = record {
  rows = λ q h. let r = sweeps.rows q h in rest_true (empties q was) (row_emptied q log) r.1 (covers.rows q r.0);
  names = λ q h. let r = sweeps.names q h in rest_true (is_logged q was.names.items) (name_logged q log) r.1 (covers.names q r.0);
}

pub clean_covered : (kept : Kept) (log : List RowWas) → Covers kept log → log ≡ [] → IsClean kept
clean_covered kept log covers e = none kept (subst (Covers kept) e covers)
  where
    none : (k : Kept) → Covers k [] → IsClean k
    none k c = record { rows = λ q h. absurd (true≢false (sym (c.rows q h))); names = λ q h. absurd (true≢false (sym (c.names q h))) }
