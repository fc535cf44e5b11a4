use Rattle.std.proofs.Common.{subst}
use Rattle.std.specs.Map.{keys_of}
use Rattle.sdb_base.specs.Pairs.{HasDistinctNames}
use Rattle.sdb_form.specs.Form.{IsFirst, IsRepeat}
use Rattle.sdb_form.proofs.Answers.{are_params, is_repeated}
use Rattle.sdb_form.proofs.reading.answer.Goals as goal

pub of-requires : goal.of-requires
of-requires c = subst HasDistinctNames c.deref.ensures.value (rw c.in-None.is at c.in_ok-place.ensures)

pub returns-in-Some : goal.returns-in-Some
returns-in-Some c =
    let first = rw c.in-Some.is at c.in_ok-place.ensures in
    is_repeated c.args.form.now c.in_ok-pairs.pairs.items c.in-Some.place c.in_ok-pairs.ensures.pairs c.in_ok-pairs.ensures.texts (subst (λ pairs. IsFirst (IsRepeat (keys_of pairs)) c.in-Some.place) c.deref.ensures.value first)

pub returns-in-None : goal.returns-in-None
returns-in-None c =
    let distinct = rw c.in-None.is at c.in_ok-place.ensures in
    rw c.of.ensures (are_params c.args.form.now c.in_ok-pairs.pairs.items c.in_ok-pairs.ensures.pairs c.in_ok-pairs.ensures.texts (subst HasDistinctNames c.deref.ensures.value distinct))
