use Rattle.std.proofs.Common.{◌≡◌, ◌∙◌, ap, sym, subst, Some, None}
use Rattle.sdb_time.specs.Reading as reading
use Rattle.sdb_time.specs.Stamps.{parts_of}
use Rattle.sdb_time.proofs.Judged.{IsJudged, judged_form, judged_moment}
use Rattle.sdb_time.proofs.moment.read_moment.Goals as goal

pub returns-in_default : goal.returns-in_default
returns-in_default c =
    let text_is = c.as_bytes.ensures.value ∙ c.as_str.ensures.value in
    let none : reading.parts c.args.text.now ≡ None = ap reading.parts (sym text_is) ∙ sym c.in_default.ensures in
    let j = judged_form c.args.text.now none in
    record { moment = j.moment; bad_form = j.bad_form; no_such_moment = j.no_such_moment }

pub returns : goal.returns
returns c =
    let text_is = c.as_bytes.ensures.value ∙ c.as_str.ensures.value in
    let some : reading.parts c.args.text.now ≡ Some (parts_of c.in-Some.stamp) = ap reading.parts (sym text_is) ∙ sym c.in-Some.ensures in
    let j = subst (IsJudged c.args.text.now) (sym c.ok_or.ensures.value) (judged_moment c.args.text.now (parts_of c.in-Some.stamp) c.seconds.result some c.seconds.ensures.some c.seconds.ensures.none) in
    record { moment = j.moment; bad_form = j.bad_form; no_such_moment = j.no_such_moment }
