use Rattle.nqs_laws.proofs.Caused.{one_event}
use Rattle.nqs_laws.proofs.causes.no_event_makes_another_change.Goals as goal

pub returns-clause-twice : goal.returns-clause-twice
returns-clause-twice c = λ h own d e b ch ns k. one_event h own d e b ch ns k

pub returns-clause-elsewhere : goal.returns-clause-elsewhere
returns-clause-elsewhere c = λ h g own why ch ns other k. other k.0

pub returns-clause-stopped : goal.returns-clause-stopped
returns-clause-stopped c = λ h g i own why ch ns k. k

pub returns-clause-uncaused : goal.returns-clause-uncaused
returns-clause-uncaused c = λ h why ch ns k. k
