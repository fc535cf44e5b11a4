use Rattle.std.proofs.Common.{◌++◌, ◌∙◌, ap}
use Rattle.sdb_reply.specs.Escape.{content}
use Rattle.sdb_reply.specs.Results.{domain_name}
use Rattle.sdb_reply.proofs.FramedLemmas.{framed}
use Rattle.sdb_reply.proofs.results.append_name.Goals as goal

pub returns : goal.returns
unfolding domain_name
returns c =
    framed _ _ _ _ _ _ _ c.in_ok-append.ensures.ok (c.in_ok-append_content.ensures ∙ ap (λ l. c.append.new.self.bytes ++ content l) c.as_str.ensures.value) c.in_ok-append-2.ensures.ok
