use Rattle.std.proofs.Common.{◌≡◌, ◌∙◌, ◌++◌, ◌∷◌, [], sym, ap, subst}
use Rattle.sdb_domain.specs.Held.{IsWhole}
use Rattle.sdb_domain.specs.Undo.{Opening, Covers, IsCovered, FitsLast, row_undone, last_undone}
use Rattle.sdb_domain.proofs.OpenLemmas.{last_more, fits_last}
use Rattle.sdb_domain.proofs.opened.Opened.undo.Goals as goal

pub undo-requires-clause-whole : goal.undo-requires-clause-whole
undo-requires-clause-whole c =
    let last : last_undone c.args.self.now ≡ record { kept = row_undone c.self.inside.held c.in-Some.was; log = c.pop.new.self.items } =
    ap last_undone (sym c.self.view_is) ∙ last_more c.self.inside.held c.pop.new.self.items c.self.inside.log.items c.in-Some.was c.in-Some.ensures.items in
    subst IsWhole (ap (λ (o : Opening). o.kept) last) c.requires.0

pub invariant_of-self : goal.invariant_of-self
invariant_of-self c =
    let last : last_undone c.args.self.now ≡ record { kept = row_undone c.self.inside.held c.in-Some.was; log = c.pop.new.self.items } =
    ap last_undone (sym c.self.view_is) ∙ last_more c.self.inside.held c.pop.new.self.items c.self.inside.log.items c.in-Some.was c.in-Some.ensures.items in
    subst (λ k. Covers k c.pop.new.self.items) (sym c.undo.ensures) (subst IsCovered last c.requires.1)

pub returns-in-Some : goal.returns-in-Some
returns-in-Some c =
    let last : last_undone c.args.self.now ≡ record { kept = row_undone c.self.inside.held c.in-Some.was; log = c.pop.new.self.items } =
    ap last_undone (sym c.self.view_is) ∙ last_more c.self.inside.held c.pop.new.self.items c.self.inside.log.items c.in-Some.was c.in-Some.ensures.items in
    (λ i. record { kept = c.undo.ensures i; log = c.pop.new.self.items }) ∙ sym last

pub undo-requires-clause-room : goal.undo-requires-clause-room
undo-requires-clause-room c =
    let log : c.self.inside.log.items ≡ c.pop.new.self.items ++ c.in-Some.was ∷ [] = c.in-Some.ensures.items in
    let fits : FitsLast c.self.inside.log.items c.self.inside.held = subst (λ (o : Opening). FitsLast o.log o.kept) (sym c.self.view_is) c.requires.2 in
    fits_last c.pop.new.self.items c.in-Some.was c.self.inside.held (subst (λ l. FitsLast l c.self.inside.held) log fits)
