use Rattle.nqs_laws.proofs.HandoverLaws.{all_agree, all_named}
use Rattle.nqs_laws.proofs.handovers.promises_keep_what_is_handed_over.Goals as goal

pub returns : goal.returns
returns c = record {
  offered = λ site acts few sane from to s t sat tat number opens promised. all_agree site few acts sane from to s t sat tat number opens promised;
  committed = λ site acts few sane from to s t sat tat number given promised. all_named site few acts sane from to s t sat tat number given promised;
}
