-- Of a request one thing is read.
use Rattle.std.proofs.Common.{◌≡◌, ℕ, List, Result, Ok, Err, sym, ap, ◌∙◌}
use Rattle.sdb_action.specs.declared.action.Action.{Action}
use Rattle.sdb_base.specs.Pairs.{NamedValues}
use Rattle.sdb_http.specs.Messages.{Reply, Seen}
use Rattle.sdb_keys.specs.declared.keys.Key.{Key}
use Rattle.sdb_sign.proofs.Verdicts.{one_verdict}
use Rattle.sdb_tables.specs.declared.refusal.Refusal.{Refusal}
use Rattle.sdb_arrivals.specs.declared.read.Read.{Read}
use Rattle.sdb_arrivals.specs.Reading.{IsReadAfter, IsReadOf, opening, verified}

one_after : (keys : List Key) (moment : ℕ) (m : Seen) (opened : Result (NamedValues × Action) Refusal) (a b : Read) → IsReadAfter keys moment m opened a → IsReadAfter keys moment m opened b → a ≡ b
one_after keys moment m (Err refusal) a b x y = x ∙ sym y
one_after keys moment m (Ok opened) a b (v, x, is) (w, y, was) =
    is ∙ (ap (verified opened.0 opened.1) (one_verdict m.verb m.host opened.0 keys moment v w x y) ∙ sym was)

pub one_read_of : (keys : List Key) (moment : ℕ) (request : Reply) (a b : Read) → IsReadOf keys moment request a → IsReadOf keys moment request b → a ≡ b
one_read_of keys moment (Ok m) a b x y = one_after keys moment m (opening m.form) a b x y
one_read_of keys moment (Err fault) a b x y = x ∙ sym y
