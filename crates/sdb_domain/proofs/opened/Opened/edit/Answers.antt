use Rattle.std.proofs.Common.{◌≡◌, ◌∙◌, ◌++◌, ◌∷◌, [], sym, ap, subst}
use Rattle.sdb_domain.specs.Held.{IsWhole}
use Rattle.sdb_domain.specs.Undo.{Opening, IsCovered, FitsLast, last_undone}
use Rattle.sdb_domain.proofs.OpenLemmas.{last_more, fits_more, covered_more}
use Rattle.sdb_domain.proofs.opened.Opened.edit.Goals as goal

pub returns-clause-back : goal.returns-clause-back
returns-clause-back c =
    let log = c.self.inside.log.items in
    let logged : c.push.new.self.items ≡ log ++ c.in_ok-was.was' ∷ [] = c.in_ok-push.ensures.items ∙ ap (λ l. l ++ c.in_ok-was.was' ∷ []) c.in_ok-reserve.ensures.items in
    last_more c.edit.new.self log c.push.new.self.items c.in_ok-was.was' logged ∙ (λ i. record { kept = c.in_ok-was.ensures.back i; log = log }) ∙ c.self.view_is

pub returns-clause-can : goal.returns-clause-can
returns-clause-can c =
    let log = c.self.inside.log.items in
    let logged : c.push.new.self.items ≡ log ++ c.in_ok-was.was' ∷ [] = c.in_ok-push.ensures.items ∙ ap (λ l. l ++ c.in_ok-was.was' ∷ []) c.in_ok-reserve.ensures.items in
    let before : Opening = record { kept = c.self.inside.held; log = log } in
    let last : last_undone (record { kept = c.edit.new.self; log = c.push.new.self.items }) ≡ before =
    last_more c.edit.new.self log c.push.new.self.items c.in_ok-was.was' logged ∙ (λ i. record { kept = c.in_ok-was.ensures.back i; log = log }) in
    let fits : FitsLast c.push.new.self.items c.edit.new.self =
    subst (λ l. FitsLast l c.edit.new.self) (sym logged) (fits_more log c.in_ok-was.was' c.edit.new.self c.in_ok-was.ensures.room) in
    (subst IsWhole (sym (ap (λ (o : Opening). o.kept) last)) c.in_ok-was.ensures.was_whole, subst IsCovered (sym last) c.self.invariant, fits)

pub invariant_of-self-2 : goal.invariant_of-self-2
invariant_of-self-2 c =
    let log = c.self.inside.log.items in
    let logged : c.push.new.self.items ≡ log ++ c.in_ok-was.was' ∷ [] = c.in_ok-push.ensures.items ∙ ap (λ l. l ++ c.in_ok-was.was' ∷ []) c.in_ok-reserve.ensures.items in
    covered_more c.self.inside.held c.edit.new.self log c.push.new.self.items c.in_ok-was.was' c.self.invariant c.in_ok-was.ensures.only logged
