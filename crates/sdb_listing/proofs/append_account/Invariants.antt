use Rattle.std.proofs.Common.{◌≡◌, ◌++◌, length}
use Rattle.std.specs.Option.{option_copied}
use Rattle.sdb_domain.specs.LookUps.{domains_after}
use Rattle.sdb_answer.proofs.ListingLemmas.{named}
use Rattle.sdb_listing.specs.Listing.{account_lines, named_lines}
use Rattle.sdb_listing.proofs.append_account.Given as goal

-- the lines so far, and those of the domains behind the last one
abbrev pub invariant-loop-name : goal.invariant-loop-name
invariant-loop-name l = l.initial.text.bytes ++ account_lines l.accounts l.account ≡ l.text.bytes ++ named_lines l.account (named (domains_after l.accounts l.account (option_copied l.last)))

abbrev pub decreases-loop-name : goal.decreases-loop-name
decreases-loop-name l = length (named (domains_after l.accounts l.account (option_copied l.last)))
