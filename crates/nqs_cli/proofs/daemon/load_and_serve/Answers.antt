use Rattle.std.proofs.Common.{◌∙◌, inr, refl, sym, ap}
use Rattle.nqs_state.specs.State.{content}
use Rattle.nqs_store.specs.Stores.{bytes_of, plain_of}
use Rattle.nqs_node.proofs.Booting.{told_when_loaded}
use Rattle.nqs_cli.specs.Parts.{Outside, daemon_told}
use Rattle.nqs_cli.proofs.Serving.{not_loaded}
use Rattle.nqs_cli.proofs.daemon.load_and_serve.Goals as goal

pub boot_and_serve-requires : goal.boot_and_serve-requires
boot_and_serve-requires g c = record { loaded = (c.args.disks, c.in-Ok.ensures) }

pub returns-in-Err : goal.returns-in-Err
returns-in-Err g c =
    let was : Outside = daemon_told g.D.Disk g.W.Wire g.L.Launcher g.P.Printer g.O.Outlet g.C.Clock c.args.disks c.args.around.now in
    let now : Outside = daemon_told g.D.Disk g.W.Wire g.L.Launcher g.P.Printer g.O.Outlet g.C.Clock c.in-Err.disks c.args.around.now in
    not_loaded g.D.Disk.tells c.args.station.now.me c.args.station.now.names.now c.args.turns was now c.in-Err.fault c.status_of_fault.result
    c.status_of_fault.ensures (refl, refl)
    c.requires.quiet c.in-Err.ensures.reads.same (λ which is. (c.in-Err.ensures.failed which is).rose) c.in-Err.ensures.fault

pub returns-then-not-is_here : goal.returns-then-not-is_here
returns-then-not-is_here g c = (
  (refl, refl),
  λ yes. (
    λ which. ap g.D.Disk.history (c.close.ensures which) ∙ c.in-Ok.ensures.reads.same yes which,
    inr (
      plain_of c.in-Ok.store (content c.in-Ok.state),
      told_when_loaded c.args.disks c.in-Ok.store c.in-Ok.state yes c.in-Ok.ensures,
      sym (c.is_here.ensures (bytes_of c.in-Ok.store)) ∙ c.if-not-is_here.true,
    ),
  ),
)

pub returns-else-not-is_here : goal.returns-else-not-is_here
returns-else-not-is_here g c = c.boot_and_serve.ensures c.args.station.now.me c.args.station.now.names.now c.args.disks c.in-Ok.ensures (λ yes. (
  plain_of c.in-Ok.store (content c.in-Ok.state),
  told_when_loaded c.args.disks c.in-Ok.store c.in-Ok.state yes c.in-Ok.ensures,
  sym (c.is_here.ensures (bytes_of c.in-Ok.store)) ∙ c.if-not-is_here.false,
))
