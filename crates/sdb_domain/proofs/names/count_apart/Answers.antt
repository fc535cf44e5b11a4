use Rattle.std.proofs.Common.{◌≡◌, ◌<◌, ◌∙◌, Some, sym, subst, length}
use Rattle.sdb_domain.specs.Names.{IsSide, first_name, past_first}
use Rattle.sdb_domain.proofs.NameLemmas.{Walks, can_lower, walks_old, walks_new, walks_both, changes_more}
use Rattle.sdb_domain.proofs.names.count_apart.Goals as goal

pub loop-side-preserved-in-Old : goal.loop-side-preserved-in-Old
loop-side-preserved-in-Old c =
    let o = c.loop-side.old_rest.now in
    let n = c.loop-side.new_rest.now in
    let some : 0 < length o = subst (λ s. IsSide o n (Some s)) c.in-Old.is c.in-Some.ensures in
    let inv = c.loop-side.invariant in
    let can = can_lower c.args.old.now c.args.new.now c.args.names.now c.loop-side.names o n inv.walks c.requires.counted some in
    let done = c.in_ok-lower-in-Old.ensures in
    record {
      walks = subst (λ l. Walks c.args.old.now c.args.new.now c.args.names.now c.lower.new.names l n) (sym c.behind_first-old_rest.ensures.rest)
          (walks_old c.args.old.now c.args.new.now c.args.names.now c.loop-side.names o n inv.walks c.lower.new.names c.name_of_first.result.now c.name_of_first.ensures some can done.ok done.tallied);
      logged = changes_more c.args.names.now.counts c.loop-side.names.counts c.lower.new.names.counts c.loop-side.log.items c.lower.new.log.items c.name_of_first.result.now _ inv.logged done.ok done.logged;
      back = done.back ∙ inv.back;
    }

pub loop-side-preserved-in-New : goal.loop-side-preserved-in-New
loop-side-preserved-in-New c =
    let o = c.loop-side.old_rest.now in
    let n = c.loop-side.new_rest.now in
    let some : 0 < length n = subst (λ s. IsSide o n (Some s)) c.in-New.is c.in-Some.ensures in
    let inv = c.loop-side.invariant in
    let done = c.in_ok-raise-in-New.ensures in
    record {
      walks = subst (λ l. Walks c.args.old.now c.args.new.now c.args.names.now c.raise.new.names o l) (sym c.behind_first-new_rest.ensures.rest)
          (walks_new c.args.old.now c.args.new.now c.args.names.now c.loop-side.names o n inv.walks c.raise.new.names c.name_of_first-in-New.result.now c.name_of_first-in-New.ensures some done.ok done.tallied);
      logged = changes_more c.args.names.now.counts c.loop-side.names.counts c.raise.new.names.counts c.loop-side.log.items c.raise.new.log.items c.name_of_first-in-New.result.now _ inv.logged done.ok done.logged;
      back = done.back ∙ inv.back;
    }

pub loop-side-preserved : goal.loop-side-preserved
loop-side-preserved c =
    let o = c.loop-side.old_rest.now in
    let n = c.loop-side.new_rest.now in
    let both : (0 < length o) × (0 < length n) × (first_name o ≡ first_name n) = subst (λ s. IsSide o n (Some s)) c.in-Both.is c.in-Some.ensures in
    let inv = c.loop-side.invariant in
    let walks = walks_both c.args.old.now c.args.new.now c.args.names.now c.loop-side.names o n inv.walks both.0 both.1 both.2 in
    record {
      walks = subst (λ l. Walks c.args.old.now c.args.new.now c.args.names.now c.loop-side.names l c.behind_first-new_rest-in-Both.result.now) (sym c.behind_first-old_rest-in-Both.ensures.rest)
          (subst (λ l. Walks c.args.old.now c.args.new.now c.args.names.now c.loop-side.names (past_first o) l) (sym c.behind_first-new_rest-in-Both.ensures.rest) walks);
      logged = inv.logged;
      back = inv.back;
    }
