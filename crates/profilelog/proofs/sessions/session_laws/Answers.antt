use Rattle.profilelog.proofs.Accepted.{session_laws}
use Rattle.profilelog.proofs.sessions.session_laws.Goals as goal

pub returns : goal.returns
returns c = session_laws
