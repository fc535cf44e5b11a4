use Rattle.std.proofs.Common.{sym, subst, List, ℕ}
use Rattle.sdb_http.specs.Inside.{IsFrontOf, at_start}
use Rattle.sdb_http.proofs.InsideLemmas.{IsFrontOf-shift}
use Rattle.sdb_http.proofs.feed.compact.Goals as goal

pub returns-clause-at_front : goal.returns-clause-at_front
returns-clause-at_front c = subst (λ (all : List ℕ). IsFrontOf all (at_start c.args.front)) (sym c.drop_front.ensures.items) (IsFrontOf-shift c.args.bytes.now.items c.args.front c.requires)
