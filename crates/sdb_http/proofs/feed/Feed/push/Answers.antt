use Rattle.std.proofs.Common.{◌∷◌, sym, subst}
use Rattle.std.proofs.lemmas.Result.{on_ok_weaker}
use Rattle.sdb_http.specs.Feeds.{Pushed, StandsFor, State}
use Rattle.sdb_http.proofs.FeedLemmas.{StandsFor-push}
use Rattle.sdb_http.proofs.feed.Feed.push.Goals as goal

pub returns-clause-past : goal.returns-clause-past
returns-clause-past c = λ past h.
    on_ok_weaker c.append.result (λ is. subst (λ (s : State). StandsFor s (Pushed c.args.piece.now ∷ past)) (sym is) (StandsFor-push c.args.self.now past c.args.piece.now h)) c.append.ensures.ok
