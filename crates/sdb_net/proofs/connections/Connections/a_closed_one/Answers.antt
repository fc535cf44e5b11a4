use Rattle.std.proofs.Common.{◌≡◌, ◌∙◌, sym, IsSome, ◌∷◌, inl, inr}
use Rattle.std.proofs.lemmas.List.Elements.{All-same, All-rest}
use Rattle.sdb_net.specs.Connections.{socket_at}
use Rattle.sdb_net.proofs.ClosedLemmas.{first_or_later}
use Rattle.sdb_net.proofs.connections.Connections.a_closed_one.Goals as goal

pub loop-number-init : goal.loop-number-init
loop-number-init g c =
    let keys = c.keys-number-items in
    let same = c.into_iter-number-iterator.ensures.into_iter_gives in
    record {
      sockets = All-same (λ k. IsSome (socket_at c.args.self.now k)) _ _ (same ∙ keys.ensures.rest) keys.ensures.found;
      left_or_open = λ k some. inl (rw same (sym (keys.ensures.has k) ∙ some));
    }

pub loop-number-preserved : goal.loop-number-preserved
loop-number-preserved g c =
    let first : c.loop-number.number-iterator ≡ c.in-Some.number.now ∷ c.next.new.self = c.in-Some.ensures.steps in
    record {
      sockets = All-rest (λ k. IsSome (socket_at c.args.self.now k)) c.in-Some.number.now c.next.new.self c.loop-number.number-iterator first c.loop-number.invariant.sockets;
      left_or_open = λ k some. elim (c.loop-number.invariant.left_or_open k some) [
        | inl left ↦ elim (first_or_later k c.in-Some.number.now c.next.new.self (rw first at left)) [ inl is ↦ inr (rw is (sym c.if-not-is_open.ensures)) | inr later ↦ inl later ]
        | inr opened ↦ inr opened
      ];
    }
