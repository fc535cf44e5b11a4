use Rattle.std.proofs.Common.{ℕ, List, ◌++◌, ◌∷◌, map, sym, ap, ◌∙◌, append_assoc, subst, arith}
use Rattle.std.proofs.lemmas.List.Elements.{All-nil, All-push}
use Rattle.form_urlencoded.specs.Form.{parse}
use Rattle.form_urlencoded.specs.Parse.{raw_pairs_left}
use Rattle.sdb_form.specs.Form.{IsTextPair, IsFirstNotUtf8}
use Rattle.sdb_form.proofs.Answers.{is_not_utf8}
use Rattle.sdb_form.proofs.Decoding.{decode_pair}
use Rattle.sdb_form.proofs.Firsts.{first_spoiled}
use Rattle.sdb_form.proofs.pairs.pairs_of.Goals as goal

pub loop-name-init : goal.loop-name-init
loop-name-init c =
    rw (c.into_iter-name-iterator.ensures.into_iter_gives, c.new-pairs.ensures.items)
    (record { all = ap (map decode_pair) (sym c.raw_pairs-name-items.ensures.value); texts = All-nil IsTextPair })

pub loop-name-preserved : goal.loop-name-preserved
loop-name-preserved c =
    let pairs = c.loop-name.pairs.items in
    let left = map decode_pair (raw_pairs_left c.next.new.self) in
    let found = rw c.in-Some-2.is at c.in_ok-pair.ensures in
    let split = c.loop-name.invariant.all ∙ ap (λ pieces. pairs ++ map decode_pair pieces) c.in-Some.ensures.steps in
    let all = split ∙ ap (λ pair. pairs ++ pair ∷ left) (sym found.0) in
    rw c.in_ok-push-in-Some-2.ensures.items
    (record {
      all = rw append_assoc all;
      texts = All-push IsTextPair pairs c.in-Some-2.pair c.loop-name.invariant.texts (subst IsTextPair (sym found.0) found.1);
    })

pub returns-in-None-2-clause-fault : goal.returns-in-None-2-clause-fault
returns-in-None-2-clause-fault c =
    let piece : List ℕ × List ℕ = (c.in-Some.name.now, c.in-Some.value.now) in
    let step = c.in-Some.ensures.steps in
    let all = c.loop-name.invariant.all ∙ ap (λ left. c.loop-name.pairs.items ++ map decode_pair left) step in
    let spoiled = rw c.in-None-2.is at c.in_ok-pair.ensures in
    let first = first_spoiled (parse c.args.form.now) c.loop-name.pairs.items (map decode_pair (raw_pairs_left c.next.new.self)) (decode_pair piece) all c.loop-name.invariant.texts spoiled in
    subst (IsFirstNotUtf8 c.args.form.now) (omega arith) (is_not_utf8 c.args.form.now _ first)
