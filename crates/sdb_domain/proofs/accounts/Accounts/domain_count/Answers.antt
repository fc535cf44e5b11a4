use Rattle.std.proofs.Common.{◌≡◌, ◌+◌, ◌<◌, length, get_or, ◌∙◌, sym, ap, arith}
use Rattle.sdb_domain.specs.Slots.{AccountKept, account_at, domains_shown}
use Rattle.sdb_domain.specs.Weights.{domains_of}
use Rattle.sdb_domain.proofs.LogLemmas.{at_get}
use Rattle.sdb_domain.proofs.NumberLemmas.{count_of_account}
use Rattle.sdb_domain.proofs.accounts.Accounts.domain_count.Goals as goal

pub returns : goal.returns
returns c =
    let accounts = c.self.inside.accounts in
    let place = c.index_of.result in
    let lt : place < length accounts = omega arith in
    let here : get_or accounts place c.index-self-index_of.result ≡ account_at accounts place = sym (at_get accounts place c.index-self-index_of.result lt) in
    let number : c.args.account ≡ 1 + place = omega arith in
    c.count.ensures
    ∙ ap (λ (a : AccountKept). length (domains_shown a.slots)) here
    ∙ sym (count_of_account accounts place c.args.account number)
    ∙ ap (λ s. length (domains_of s c.args.account)) c.self.view_is
