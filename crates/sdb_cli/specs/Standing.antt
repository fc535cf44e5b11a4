-- Where a session of the code stands.
use Rattle.sdb_cli.specs.Plain.{Standing}
use Rattle.sdb_cli.specs.declared.session.Session.{Session}

-- where a session stands
abbrev pub standing : Session → Standing
standing s = record { number = s.number; accounts = s.accounts; held = s.held }
