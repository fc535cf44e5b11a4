use Rattle.std.proofs.Common.{◌≡◌, [], ◌∷◌, ◌++◌, List, sym, ◌∙◌, subst}
use Rattle.sdb_pairs.specs.declared.change.Change.{Change}
use Rattle.sdb_pairs.specs.declared.change.Change.TheVariants.{MakeDomain}
use Rattle.sdb_pairs.specs.Changes.{state}
use Rattle.sdb_record.specs.Stands.{HasSmallItems}
use Rattle.sdb_store.proofs.SmallLemmas.{made_small}
use Rattle.sdb_store_tests.proofs.store.commit_domain.Goals as goal

pub stage-requires-clause-small : goal.stage-requires-clause-small
stage-requires-clause-small g c =
    let made : c.push.new.self ≡ MakeDomain 1 c.in-Ok.name ∷ [] = c.in-Ok-push.ensures.ok ∙ (λ i. c.new-changes.ensures i ++ MakeDomain 1 c.in-Ok.name ∷ []) in
    subst (λ l. HasSmallItems (state c.args.store.now.accounts l)) (sym made) (made_small c.args.store.now.accounts 1 c.in-Ok.name c.accounts.ensures.small)
