use Rattle.std.proofs.Common.{◌++◌, ◌∙◌, ap}
use Rattle.sdb_reply.specs.Escape.{content}
use Rattle.sdb_reply.proofs.FramedLemmas.{attribute-written}
use Rattle.sdb_reply.proofs.results.append_attribute.Goals as goal

pub returns : goal.returns
returns c =
    attribute-written c.args.out.now.bytes c.append.new.self.bytes c.append_content.new.out.bytes c.append-2.new.self.bytes c.append_content-2.new.out.bytes c.append-3.new.self.bytes c.args.pair.now
    c.in_ok-append.ensures.ok (c.in_ok-append_content.ensures ∙ ap (λ l. c.append.new.self.bytes ++ content l) c.as_str.ensures.value) c.in_ok-append-2.ensures.ok
    (c.in_ok-append_content-2.ensures ∙ ap (λ l. c.append-2.new.self.bytes ++ content l) c.as_str-2.ensures.value) c.in_ok-append-3.ensures.ok
