use Rattle.std.proofs.Common.{◌≡◌, ◌+◌, ◌<◌, length, get_or, ◌∙◌, sym, ap, subst, arith, IfSome}
use Rattle.sdb_base.specs.Texts.{text_cmp}
use Rattle.sdb_pairs.specs.Accounts.{items_of}
use Rattle.sdb_base.specs.Entries.{found}
use Rattle.sdb_domain.specs.Slots.{AccountKept, account_at, domains_shown, IsSettled}
use Rattle.sdb_domain.proofs.LogLemmas.{at_get}
use Rattle.sdb_domain.proofs.NumberLemmas.{items_at}
use Rattle.sdb_domain.proofs.accounts.Accounts.domain.Goals as goal

pub domain-requires : goal.domain-requires
domain-requires c =
    let accounts = c.self.inside.accounts in
    let place = c.index_of.result in
    let lt : place < length accounts = omega arith in
    let here : account_at accounts place ≡ get_or accounts place c.index-self-index_of.result = at_get accounts place c.index-self-index_of.result lt in
    subst (λ (a : AccountKept). IfSome (found text_cmp a.slots c.args.name.now) IsSettled) here (c.self.invariant.settled place c.args.name.now)

pub returns-clause-found : goal.returns-clause-found
returns-clause-found c =
    let accounts = c.self.inside.accounts in
    let place = c.index_of.result in
    let lt : place < length accounts = omega arith in
    let here : get_or accounts place c.index-self-index_of.result ≡ account_at accounts place = sym (at_get accounts place c.index-self-index_of.result lt) in
    let number : c.args.account ≡ 1 + place = omega arith in
    c.domain.ensures
    ∙ ap (λ (a : AccountKept). found text_cmp (domains_shown a.slots) c.args.name.now) here
    ∙ sym (items_at accounts place c.args.account c.args.name.now number)
    ∙ ap (λ s. items_of s c.args.account c.args.name.now) c.self.view_is
