use Rattle.std.proofs.Common.{◌≡◌, sym, Equal}
use Rattle.std.proofs.lemmas.Map.Lookups.{exact_bytes}
use Rattle.sdb_base.specs.Texts.{text_cmp}
use Rattle.sdb_domain.proofs.RangeLemmas.{some_weaker}
use Rattle.sdb_domain.proofs.keyed.Keyed.get_key_value.Goals as goal

pub returns-clause-key : goal.returns-clause-key
returns-clause-key g c =
    some_weaker (λ p. text_cmp c.args.key.now p.0.now ≡ Equal) (λ p. p.0.now ≡ c.args.key.now) c.get_key_value.result (λ p e. sym (exact_bytes c.args.key.now p.0.now e)) c.get_key_value.ensures.same_key
