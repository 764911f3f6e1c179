-- How hosts, requests and the folders of jobs are written.
use Rattle.std.specs.Prelude.{ℕ, List, [], ◌++◌, codes}
use Rattle.std.specs.Fmt.{decimal}
use Rattle.std.specs.List.{slice_get}
use Rattle.std.specs.Option.{option_map, unwrap_or}
use Rattle.nqs_types.specs.declared.ids.RequestId.{RequestId}
use Rattle.nqs_real.specs.declared.site.SiteHost.{SiteHost}

-- the name of a host of the site
abbrev pub name_at : ℕ → List SiteHost → List ℕ
name_at place site = unwrap_or (option_map (λ host. host.name) (slice_get site place)) []

-- a request as users write it, SEQ.HOST
abbrev pub request_text : RequestId → List SiteHost → List ℕ
request_text id site = decimal id.seq ++ codes "." ++ name_at id.host.0 site

-- the name of the folder of a job, SEQ.HOST.START
abbrev pub job_text : RequestId → ℕ → List SiteHost → List ℕ
job_text id start site = request_text id site ++ codes "." ++ decimal start
