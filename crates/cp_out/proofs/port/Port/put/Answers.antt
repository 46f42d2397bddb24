use Rattle.std.proofs.Common.{◌∙◌, ◌≡◌, [], ◌∷◌, ◌++◌}
use Rattle.cp_out.proofs.PortLaws.{records-more, failed-more}
use Rattle.cp_out.proofs.port.Port.put.Goals as goal

pub invariant_of-self-2 : goal.invariant_of-self-2
invariant_of-self-2 g c =
    let put = c.put_unless-reply.ensures in
    let entries = c.self.inside.entries.items in
    let e : c.put.new.self.items ≡ entries ++ record { engine = c.args.engine; bytes = c.args.bytes.now; reply = c.put_unless-reply.result } ∷ [] =
    rw (c.reserve.ensures.items, c.in_ok-copy.ensures, c.as_slice.ensures) at c.put.ensures.items in
    rw (e, c.is_failed-self-inside.ensures) (
      failed-more entries _ c.self.inside.failed c.self.invariant.0 put.failed,
      records-more g.S.Sink.held g.S.Sink.faults c.self.inside.first.value entries c.self.inside.sink c.put_unless-reply.new.sink _
          c.self.inside.failed c.self.invariant.0 c.self.invariant.1 put.failed put.not_called
          (λ h. rw c.as_slice-2.ensures at (put.grew h)) put.caused,
    )
