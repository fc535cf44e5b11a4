use Rattle.std.proofs.Common.{◌≡◌, All, ◌++◌, map, List, ℕ}
use Rattle.form_urlencoded.specs.Form.{parse}
use Rattle.form_urlencoded.specs.Parse.{raw_pairs_left}
use Rattle.sdb_form.specs.Form.{IsTextPair}
use Rattle.sdb_form.proofs.Decoding.{decode_pair}
use Rattle.sdb_form.proofs.pairs.pairs_of.Given as goal

-- the pairs so far are text, and with those of the pieces left they are the form's
pub record Reads (form : List ℕ) (pairs : List (List ℕ × List ℕ)) (left : List (List ℕ × List ℕ)) : Type 0 where
  pub all : parse form ≡ pairs ++ map decode_pair left
  pub texts : All IsTextPair pairs

abbrev pub invariant-loop-name : goal.invariant-loop-name
invariant-loop-name l = Reads l.form l.pairs.items (raw_pairs_left l.name-iterator)
