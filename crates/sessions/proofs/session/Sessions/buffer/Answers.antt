use Rattle.std.proofs.Common.{◌∙◌, ap, sym, is_some}
use Rattle.std.specs.Option.{option_copied_mut}
use Rattle.sessions.proofs.Buffered.{buffered_serves}
use Rattle.sessions.proofs.NoDisks.{buffers_no_disk}
use Rattle.sessions.proofs.session.Sessions.buffer.Goals as goal

pub returns-in-Some : goal.returns-in-Some
returns-in-Some c =
    let was = sym c.get_mut.ensures.value ∙ ap option_copied_mut c.in-Some.is in
    let is = ((c.get_mut.follows.holds c.buffer.new.self).3 (ap is_some was)).0 in
    record {
      serves = λ needs shared. buffered_serves needs shared _ _ _ _ _ _ _ was is _
          c.buffer.ensures;
      no_disk = buffers_no_disk _ _ _ _ c.buffer.ensures;
    }
