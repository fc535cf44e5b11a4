use Rattle.std.proofs.Common.{◌≡◌, ◌+◌, ◌<◌, length, get_or, ◌∙◌, sym, ap, arith, option_map}
use Rattle.std.specs.Option.{option_copied}
use Rattle.sdb_domain.specs.LookUps.{least_after, name_after}
use Rattle.sdb_domain.specs.Slots.{AccountKept, account_at, domains_shown}
use Rattle.sdb_domain.proofs.LogLemmas.{at_get}
use Rattle.sdb_domain.proofs.NumberLemmas.{name_after_account}
use Rattle.sdb_domain.proofs.accounts.Accounts.domain_after.Goals as goal

pub returns : goal.returns
returns c =
    let accounts = c.self.inside.accounts in
    let place = c.index_of.result in
    let lt : place < length accounts = omega arith in
    let here : get_or accounts place c.index-self-index_of.result ≡ account_at accounts place = sym (at_get accounts place c.index-self-index_of.result lt) in
    let number : c.args.account ≡ 1 + place = omega arith in
    c.domain_after.ensures
    ∙ ap (λ (a : AccountKept). option_map (λ domain. domain.0) (least_after (domains_shown a.slots) (option_copied c.args.name))) here
    ∙ sym (name_after_account accounts place c.args.account (option_copied c.args.name) number)
    ∙ ap (λ s. name_after s c.args.account (option_copied c.args.name)) c.self.view_is
