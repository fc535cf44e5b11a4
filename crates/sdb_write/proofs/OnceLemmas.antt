-- Texts each once, and the names that a put replaces.
use Rattle.std.proofs.Common.{◌≡◌, ℕ, Bool, true, false, cond, not, ◌&&◌, ◌||◌, List, [], ◌∷◌, ◌++◌, Bor, refl, sym, ap, ◌∙◌, map, filter, append_assoc}
use Rattle.std.specs.Cmp.Lexicographic.{slice_cmp}
use Rattle.std.specs.List.{list_any}
use Rattle.std.specs.Ordering.{is_eq, nat_cmp}
use Rattle.std.specs.Str.{bytes_eq}
use Rattle.std.proofs.lemmas.Cmp.{nat_list_eq_equiv}
use Rattle.std.proofs.lemmas.List.{map-append, append-nil}
use Rattle.std.proofs.lemmas.List.Elements.{filter-append}
use Rattle.std.proofs.lemmas.List.Folds.{list_any-append}
use Rattle.std.proofs.lemmas.Map.Made.{is_member-filter}
use Rattle.std.proofs.lemmas.Map.Text.{is_eq-slice_cmp}
use Rattle.sdb_pairs.specs.declared.op.Op.{Op}
use Rattle.sdb_pairs.specs.declared.op.Op.TheVariants.{DropName}
use Rattle.sdb_pairs.specs.Pairs.{Put, is_named, is_replaced}
use Rattle.sdb_write.specs.Changes.{each_once, replaced_names}

-- ---- each once

-- whether the text is among the texts
abbrev pub is_among : List ℕ → List (List ℕ) → Bool
is_among text texts = list_any (bytes_eq text) texts

or_kept : (same rest : Bool) → (same || (rest && not same)) ≡ (same || rest)
or_kept true rest = refl
or_kept false true = refl
or_kept false false = refl

-- the texts each once are the same texts
pub is_among-each_once : (q : List ℕ) (texts : List (List ℕ)) → is_among q (each_once texts) ≡ is_among q texts
is_among-each_once q [] = refl
is_among-each_once q (t ∷ ts) =
    let test : List ℕ → Bool = λ other. not (bytes_eq other t) in
    ap (λ b. bytes_eq q t || b) (is_member-filter nat_list_eq_equiv test q (λ x e. ap not (nat_list_eq_equiv.congr q x t e)) (each_once ts))
    ∙ or_kept (bytes_eq q t) (is_among q (each_once ts))
    ∙ ap (λ b. bytes_eq q t || b) (is_among-each_once q ts)

-- a text at the end, unless it is there
abbrev pub unless_among : Bool → List ℕ → List (List ℕ)
unless_among there text = cond there [] (text ∷ [])

kept_end : (text : List ℕ) (test : List ℕ → Bool) (same there : Bool) → test text ≡ not same → filter test (unless_among there text) ≡ unless_among (same || there) text
kept_end text test true true e = refl
kept_end text test false true e = refl
kept_end text test true false e = ap (λ b. cond b (text ∷ []) []) e
kept_end text test false false e = ap (λ b. cond b (text ∷ []) []) e

pub each_once-push : (texts : List (List ℕ)) (text : List ℕ) → each_once (texts ++ text ∷ []) ≡ each_once texts ++ unless_among (is_among text texts) text
each_once-push [] text = refl
each_once-push (t ∷ ts) text =
    let test : List ℕ → Bool = λ other. not (bytes_eq other t) in
    ap (λ l. t ∷ filter test l) (each_once-push ts text)
    ∙ ap (λ l. t ∷ l) (filter-append test (each_once ts) (unless_among (is_among text ts) text))
    ∙ ap (λ l. t ∷ (filter test (each_once ts) ++ l)) (kept_end text test (bytes_eq text t) (is_among text ts) refl)

-- ---- the replaced names

-- the names of the puts that replace
abbrev pub names_replaced : List Put → List (List ℕ)
names_replaced puts = map (λ p. p.pair.name) (filter (λ p. p.replaces) puts)

either_way : (replaces same other rest found : Bool) → same ≡ other → rest ≡ found → ((cond replaces (same || rest) rest)) ≡ ((replaces && other) || found)
either_way true same other rest found e f = ap (λ b. b || rest) e ∙ ap (λ b. other || b) f
either_way false same other rest found e f = f

is_among-names_replaced : (q : List ℕ) (puts : List Put) → is_among q (names_replaced puts) ≡ is_replaced puts q
is_among-names_replaced q [] = refl
is_among-names_replaced q (p ∷ ps) =
    moved p.replaces
    ∙ either_way p.replaces (bytes_eq q p.pair.name) (is_named q p.pair) (is_among q (names_replaced ps)) (is_replaced ps q) (nat_list_eq_equiv.symm q p.pair.name) (is_among-names_replaced q ps)
  where
    moved : (b : Bool) → is_among q (map (λ p. p.pair.name) (cond b (p ∷ filter (λ p. p.replaces) ps) (filter (λ p. p.replaces) ps))) ≡ cond b (bytes_eq q p.pair.name || is_among q (names_replaced ps)) (is_among q (names_replaced ps))
    moved true = refl
    moved false = refl

-- the replaced names are those that have a Replace
pub is_among-replaced_names : (q : List ℕ) (puts : List Put) → is_among q (replaced_names puts) ≡ is_replaced puts q
is_among-replaced_names q puts = is_among-each_once q (names_replaced puts) ∙ is_among-names_replaced q puts

names_replaced-push : (puts : List Put) (p : Put) → names_replaced (puts ++ p ∷ []) ≡ names_replaced puts ++ cond p.replaces (p.pair.name ∷ []) []
names_replaced-push puts p =
    ap (map (λ p. p.pair.name)) (filter-append (λ p. p.replaces) puts (p ∷ []))
    ∙ map-append (λ p. p.pair.name) (filter (λ p. p.replaces) puts) (cond p.replaces (p ∷ []) [])
    ∙ ap (λ l. names_replaced puts ++ l) (moved p.replaces)
  where
    moved : (b : Bool) → map (λ p. p.pair.name) (cond b (p ∷ []) []) ≡ cond b (p.pair.name ∷ []) []
    moved true = refl
    moved false = refl

replaced_names-kept : (puts : List Put) (p : Put) → p.replaces ≡ false → replaced_names (puts ++ p ∷ []) ≡ replaced_names puts
replaced_names-kept puts p e =
    ap each_once (names_replaced-push puts p ∙ ap (λ b. names_replaced puts ++ cond b (p.pair.name ∷ []) []) e ∙ append-nil (names_replaced puts))

replaced_names-push : (puts : List Put) (p : Put) → p.replaces ≡ true → replaced_names (puts ++ p ∷ []) ≡ replaced_names puts ++ unless_among (is_among p.pair.name (replaced_names puts)) p.pair.name
replaced_names-push puts p e =
    ap each_once (names_replaced-push puts p ∙ ap (λ b. names_replaced puts ++ cond b (p.pair.name ∷ []) []) e)
    ∙ each_once-push (names_replaced puts) p.pair.name
    ∙ ap (λ b. replaced_names puts ++ unless_among b p.pair.name) (sym (is_among-each_once p.pair.name (names_replaced puts)))

-- ---- the walk over a put's pairs

-- whether a set of names finds the name
abbrev pub is_seen : List ℕ → List (Bor (List ℕ)) → Bool
is_seen name seen = list_any (λ k. is_eq (slice_cmp nat_cmp name k.now)) seen

-- the replaced names so far are dropped, and the set finds a name where it is one of them
pub record AreDropped (puts : List Put) (seen : List (Bor (List ℕ))) (before now : List Op) : Type 0 where
  pub found : (name : List ℕ) → is_seen name seen ≡ is_replaced puts name
  pub dropped : now ≡ before ++ map DropName (replaced_names puts)

either : (a b : Bool) → cond a true b ≡ (b || (a || false))
either true true = refl
either true false = refl
either false true = refl
either false false = refl

module _ (puts : List Put) (p : Put) (seen more : List (Bor (List ℕ))) (before now later : List Op) (so_far : AreDropped puts seen before now) where
  replaced_more : (name : List ℕ) → is_replaced (puts ++ p ∷ []) name ≡ (is_replaced puts name || ((p.replaces && is_named name p.pair) || false))
  replaced_more name = list_any-append (λ p. p.replaces && is_named name p.pair) puts (p ∷ [])

  or_false : (b : Bool) → b ≡ (b || false)
  or_false true = refl
  or_false false = refl

  pub dropped_none : p.replaces ≡ false → more ≡ seen → later ≡ now → AreDropped (puts ++ p ∷ []) more before later
  dropped_none e s o = record {
    found = λ name. ap (is_seen name) s ∙ so_far.found name ∙ or_false (is_replaced puts name) ∙ ap (λ b. is_replaced puts name || ((b && is_named name p.pair) || false)) (sym e) ∙ sym (replaced_more name);
    dropped = o ∙ so_far.dropped ∙ ap (λ l. before ++ map DropName l) (sym (replaced_names-kept puts p e));
  }

  module _ (e : p.replaces ≡ true) (added : (name : List ℕ) → is_seen name more ≡ cond (is_eq (slice_cmp nat_cmp p.pair.name name)) true (is_seen name seen)) where
    found_more : (name : List ℕ) → is_seen name more ≡ is_replaced (puts ++ p ∷ []) name
    found_more name =
        added name
        ∙ ap (λ b. cond b true (is_seen name seen)) (is_eq-slice_cmp p.pair.name name)
        ∙ ap (cond (bytes_eq p.pair.name name) true) (so_far.found name)
        ∙ either (bytes_eq p.pair.name name) (is_replaced puts name)
        ∙ ap (λ b. is_replaced puts name || ((b && is_named name p.pair) || false)) (sym e)
        ∙ sym (replaced_more name)

    names_after : (there : Bool) → is_seen p.pair.name seen ≡ there → replaced_names (puts ++ p ∷ []) ≡ replaced_names puts ++ unless_among there p.pair.name
    names_after there s =
        replaced_names-push puts p e
        ∙ ap (λ b. replaced_names puts ++ unless_among b p.pair.name) (is_among-replaced_names p.pair.name puts ∙ sym (so_far.found p.pair.name) ∙ s)

    pub dropped_again : is_seen p.pair.name seen ≡ true → later ≡ now → AreDropped (puts ++ p ∷ []) more before later
    dropped_again s o = record {
      found = found_more;
      dropped = o ∙ so_far.dropped ∙ ap (λ l. before ++ map DropName l) (sym (names_after true s ∙ append-nil (replaced_names puts)));
    }

    pub dropped_new : is_seen p.pair.name seen ≡ false → later ≡ now ++ DropName p.pair.name ∷ [] → AreDropped (puts ++ p ∷ []) more before later
    dropped_new s o = record {
      found = found_more;
      dropped =
          o ∙ ap (λ l. l ++ DropName p.pair.name ∷ []) so_far.dropped
          ∙ append_assoc before (map DropName (replaced_names puts)) (DropName p.pair.name ∷ [])
          ∙ ap (λ l. before ++ l) (sym (map-append DropName (replaced_names puts) (p.pair.name ∷ [])) ∙ ap (map DropName) (sym (names_after false s)));
    }
