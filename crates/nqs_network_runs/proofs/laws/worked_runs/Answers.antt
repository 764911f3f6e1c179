use Rattle.std.proofs.Common.{refl}
use Rattle.std.specs.Fmt.{digits}
use Rattle.nqs_text.specs.Number.{decimal, first_other}
use Rattle.nqs_words.specs.Amounts.{time_of, size_of}
use Rattle.nqs_words.specs.Keywords.{keyword_of}
use Rattle.nqs_words.specs.Quoted.{step_of, quoted}
use Rattle.nqs_words.specs.Values.{is_name, name_of, number_of, seq_of, place_of, named_of, dest_of}
use Rattle.nqs_words.specs.Words.{end_of, next_word}
use Rattle.nqs_limits.specs.Time.{first_colon}
use Rattle.nqs_qmgr.specs.Heads.{word_at, name_at, request_at, nothing_after, last_name, stem_of, head_of, head_at, bare, value_at, valued, limit_of}
use Rattle.nqs_qmgr.specs.Lines.{table, shape_of, verbs, nouns, read_alone, read_one_name, read_value, read_value_and_name, read_one_request}
use Rattle.nqs_qmgr.specs.Lines.{read_request_and_name}
use Rattle.nqs_qmgr.specs.Lines.{last_value, read_request_and_priority, read_name_and_forms, read_made_queue, read_shape, after_verb, qmgr_line}
use Rattle.nqs_qmgr.specs.Options.{once, with_priority, with_run_limit, with_pipe_only, with_destination, with_option, options}
use Rattle.nqs_qsub.specs.Options.{flag_of, is_given, is_both, fresh, takes_value, marked, valued as qsub_valued, with_value, one_option, read_words}
use Rattle.nqs_qsub.specs.Qsub.{fitted, both_options, qsub_options}
use Rattle.nqs_qsub.specs.Script.{line_kind, line_end, next_line, line_options, script_options}
use Rattle.nqs_qsub.specs.Tokens.{next_token, text_of}
use Rattle.nqs_query.specs.Words.{names_of, stat_of, delete_of}
use Rattle.nqs_schedule.specs.Generated.{for_hosts, drawn, drawn_from, generated, generated_site}
use Rattle.nqs_schedule.specs.Lines.{quoted_word, word_there, next_of, words_from}
use Rattle.nqs_schedule.specs.Plans.{verb_of, submit_plan, qsub_plan, qmgr_plan, qstat_plan, qdel_plan, end_plan, one_host, fail_plan, host_and_file}
use Rattle.nqs_schedule.specs.Plans.{deliver_plan, newest_plan, clock_plan, fuse_plan, show_plan, plan_of}
use Rattle.nqs_schedule.specs.Says.{hosts_from, hosts_of, verb_says, words_say, line_says}
use Rattle.nqs_schedule.specs.Schedule.{lines_say}
use Rattle.nqs_schedule.specs.Summary.{summary_of, count_line}
use Rattle.nqs_schedule.specs.Words.{text_at, text_there, name_at as schedule_name_at, number_at, host_of, host_at, request_at as schedule_request_at, disk_of}
use Rattle.nqs_schedule.specs.Words.{disk_at, mixed_of, tear_of, tear_at, output_at, nothing_at, all_good}
use Rattle.nqs_base.specs.Path.{has_parent}
use Rattle.nqs_network_runs.proofs.laws.worked_runs.Goals as goal

pub returns : goal.returns
unfolding digits decimal first_other time_of size_of keyword_of step_of quoted is_name name_of number_of seq_of place_of named_of dest_of end_of next_word
    first_colon word_at name_at request_at nothing_after last_name stem_of head_of head_at bare value_at valued limit_of table shape_of verbs nouns
    read_alone read_one_name read_value read_value_and_name read_one_request read_request_and_name last_value read_request_and_priority read_name_and_forms
    read_made_queue
    read_shape after_verb qmgr_line once with_priority with_run_limit with_pipe_only with_destination with_option options flag_of is_given is_both fresh
    takes_value marked qsub_valued with_value one_option read_words both_options fitted qsub_options line_kind line_end next_line line_options script_options
    next_token text_of names_of stat_of delete_of for_hosts drawn drawn_from generated generated_site quoted_word word_there next_of words_from verb_of
    submit_plan qsub_plan qmgr_plan qstat_plan qdel_plan end_plan one_host fail_plan host_and_file deliver_plan newest_plan clock_plan fuse_plan show_plan
    plan_of hosts_from hosts_of verb_says words_say line_says lines_say summary_of count_line text_at text_there schedule_name_at number_at host_of host_at
    schedule_request_at disk_of disk_at mixed_of tear_of tear_at output_at nothing_at all_good has_parent
returns c = record { hosts = refl; summary = refl; stop = refl; generated = refl }
