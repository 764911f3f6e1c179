-- As whom jobs run, and whose their files are. Where they run as their owners nothing is done with the
-- number of root, nor with the one by which the system's calls leave all as it is.
use Rattle.std.specs.Prelude.{◌≡◌, Option, None, Some}
use Rattle.nqs_real.specs.Accounts.{IsUser, AreUsers}
use Rattle.nqs_real.specs.declared.directory.Owner as directory
use Rattle.nqs_real.specs.declared.owners.RunsAs.{RunsAs}
use Rattle.nqs_real.specs.declared.owners.RunsAs.TheVariants.{Daemon, Owners}
use Rattle.nqs_real.specs.declared.put.Whose.{Whose}
use Rattle.nqs_real.specs.declared.put.Whose.TheVariants as kept
use Rattle.nqs_real.specs.declared.runner.User.{User}
use Rattle.nqs_real.specs.declared.runner.User.TheVariants.{Own, Owner, Refused}

-- as whom a job runs: as the daemon's user just where all jobs do, else as a user, or not at all
abbrev pub IsAllowed : RunsAs → User → Type 0
IsAllowed jobs Own = jobs ≡ Daemon
IsAllowed jobs (Owner user) = (jobs ≡ Owners) × IsUser user
IsAllowed jobs (Refused text) = jobs ≡ Owners

-- the same of a job that is started, for a user where there is one
abbrev pub MayStart : RunsAs → Option directory.Owner → Type 0
MayStart jobs None = jobs ≡ Daemon
MayStart jobs (Some user) = (jobs ≡ Owners) × IsUser user

-- whose an output is: the daemon's user's just where all jobs run as he, else root's or a user's
abbrev pub IsKept : RunsAs → Whose → Type 0
IsKept jobs kept.Own = jobs ≡ Daemon
IsKept jobs (kept.Shared user) = (jobs ≡ Owners) × AreUsers user
