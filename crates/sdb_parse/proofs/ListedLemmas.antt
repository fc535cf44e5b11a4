-- Members that were read so far, before those that are left.
use Rattle.std.proofs.Common.{◌≡◌, ℕ, zero, suc, ◌+◌, ◌<◌, ◌≤◌, true, false, List, [], ◌∷◌, ◌++◌, length, drop, Option, Some, None, Result, Ok, Err, IsErrAnd, if◌then◌else◌, refl, sym, ap, ◌∙◌, arith, append_assoc, append-nil}
use Rattle.sdb_parse.specs.declared.fault.Fault.{Fault}
use Rattle.sdb_parse.specs.declared.fault.Fault.TheVariants as fault
use Rattle.sdb_parse.specs.declared.sign.Sign.{Sign}
use Rattle.sdb_parse.specs.declared.term.Term.{Term}
use Rattle.sdb_parse.specs.Reading.{Reader, Reads, chain, listed, more, sees}

-- a call that passes a fault on
pub passed_on : {A : Type 0} (got : Option (A × List Term)) (r : Result A Fault) (after : List Term) (e : Fault) → IsErrAnd r (λ f. f ≡ e) → (e ≡ fault.Syntax → got ≡ None) → Reads got r after
passed_on got (Ok a) after e h none = absurd h
passed_on got (Err f) after e h none = λ syntax. none (sym h ∙ syntax)

-- members before what a reading of members gives
abbrev pub with_before : {A : Type 0} → List A → Option (List A × List Term) → Option (List A × List Term)
with_before found None = None
with_before found (Some read) = Some (found ++ read.0, read.1)

-- the members found, and what the rest of the terms gives, are what the whole gives
pub record Going {A : Type 0} (s : Sign) (item : Reader A) (start ts : List Term) (found : List A) : Type 0 where
  pub turns : ℕ
  pub enough : length ts ≤ turns
  pub same : listed s item start ≡ with_before found (more turns s item ts)
  pub shorter : length ts < length start

before_more : {A : Type 0} (found : List A) (one : A) (got : Option (List A × List Term)) →
    with_before found (chain got (λ others rest. Some (one ∷ others, rest))) ≡ with_before (found ++ one ∷ []) got
before_more found one None = refl
before_more found one (Some read) = ap (λ l. Some (l, read.1)) (sym (append_assoc found (one ∷ []) read.0))

first_of_all : {A : Type 0} (one : A) (got : Option (List A × List Term)) →
    chain got (λ others rest. Some (one ∷ others, rest)) ≡ with_before (one ∷ []) got
first_of_all one None = refl
first_of_all one (Some read) = refl

module _ {A : Type 0} (s : Sign) (item : Reader A) (start : List Term) where
  pub began : (one : A) (mid : List Term) → item start ≡ Some (one, mid) → length mid < length start → Going s item start mid (one ∷ [])
  unfolding listed
  began one mid got less = record {
    turns = length mid;
    enough = omega arith;
    same = ap (λ g. chain g (λ first rest. chain (more (length rest) s item rest) (λ others after. Some (first ∷ others, after)))) got
        ∙ first_of_all one (more (length mid) s item mid);
    shorter = less;
  }

  pub began_badly : item start ≡ None → listed s item start ≡ None
  unfolding listed
  began_badly got = ap (λ g. chain g (λ first rest. chain (more (length rest) s item rest) (λ others after. Some (first ∷ others, after)))) got

  -- one turn of `more`
  more_on : (n : ℕ) (ts : List Term) → 0 < length ts → length ts ≤ n → sees s ts ≡ true →
      (m : ℕ) × (length ts ≤ suc m) × (more n s item ts ≡ chain (item (drop 1 ts)) (λ one mid. chain (more m s item mid) (λ others rest. Some (one ∷ others, rest))))
  unfolding more
  more_on zero ts some enough seen = absurd (omega arith)
  more_on (suc m) ts some enough seen =
      (m, enough, ap (λ b. if b then chain (item (drop 1 ts)) (λ one mid. chain (more m s item mid) (λ others rest. Some (one ∷ others, rest))) else Some ([], ts)) seen)

  more_end : (n : ℕ) (ts : List Term) → sees s ts ≡ false → more n s item ts ≡ Some ([], ts)
  unfolding more
  more_end zero ts seen = ap (λ b. if b then None else Some ([], ts)) seen
  more_end (suc m) ts seen =
      ap (λ b. if b then chain (item (drop 1 ts)) (λ one mid. chain (more m s item mid) (λ others rest. Some (one ∷ others, rest))) else Some ([], ts)) seen

  pub went : (ts : List Term) (found : List A) → Going s item start ts found → 0 < length ts → sees s ts ≡ true →
      (one : A) (mid : List Term) → item (drop 1 ts) ≡ Some (one, mid) → length mid + 1 < length ts → Going s item start mid (found ++ one ∷ [])
  went ts found g some seen one mid got less =
      let turn = more_on g.turns ts some g.enough seen in
      record {
        turns = turn.0;
        enough = omega (arith, turn.1);
        same = g.same ∙ ap (with_before found) (turn.2
            ∙ ap (λ got. chain got (λ first rest. chain (more turn.0 s item rest) (λ others after. Some (first ∷ others, after)))) got)
            ∙ before_more found one (more turn.0 s item mid);
        shorter = omega (arith, g.shorter);
      }

  pub went_badly : (ts : List Term) (found : List A) → Going s item start ts found → 0 < length ts → sees s ts ≡ true →
      item (drop 1 ts) ≡ None → listed s item start ≡ None
  went_badly ts found g some seen got =
      let turn = more_on g.turns ts some g.enough seen in
      g.same ∙ ap (with_before found) (turn.2
      ∙ ap (λ got. chain got (λ first rest. chain (more turn.0 s item rest) (λ others after. Some (first ∷ others, after)))) got)

  pub ended : (ts : List Term) (found : List A) → Going s item start ts found → sees s ts ≡ false → listed s item start ≡ Some (found, ts)
  ended ts found g seen =
      g.same ∙ ap (with_before found) (more_end g.turns ts seen) ∙ ap (λ l. Some (l, ts)) (append-nil found)
