use Rattle.std.proofs.Common.{◌≡◌, ◌++◌, List, ℕ, get_or, sym, ◌∙◌, ap, subst}
use Rattle.std.proofs.lemmas.Result.{on_ok_weaker}
use Rattle.sdb_reply.specs.Escape.{escaped, escape_of}
use Rattle.sdb_reply.proofs.EscapeLemmas.{escaped-plain, escaped-step, after_place}
use Rattle.sdb_reply.proofs.content.append_escaped.Goals as goal

pub runs-preserved : goal.runs-preserved
runs-preserved c =
    let rest = c.runs.rest.now in
    let at = c.in-Some.at in
    let appended = c.in_ok-append_special.ensures ∙ ap (λ l. l ++ escape_of (get_or rest at 0)) c.in_ok-append.ensures.ok in
    let P : List ℕ → Type 0 = λ l. c.args.out.now.bytes ++ escaped c.args.bytes.now ≡ c.append_special.new.out.bytes ++ escaped l in
    subst P (sym (after_place rest at))
    (escaped-step (c.args.out.now.bytes ++ escaped c.args.bytes.now) c.runs.out.bytes c.append_special.new.out.bytes rest at c.runs.invariant (sym c.in-Some.ensures.place) appended)

pub returns : goal.returns
returns c =
    let whole = c.runs.invariant ∙ ap (λ l. c.runs.out.bytes ++ l) (escaped-plain c.runs.rest.now (sym c.in_default.ensures.place)) in
    on_ok_weaker c.append-2.result (λ written. written ∙ sym whole) c.append-2.ensures.ok
