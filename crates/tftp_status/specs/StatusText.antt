-- The text of a status file: Prometheus' text format, version 0.0.4, and comments (ours).
use Rattle.std.specs.Prelude.{ℕ, ◌-◌, ◌+◌, List, [], ◌++◌, codes, Option, Some, None}
use Rattle.std.specs.Fmt.{decimal}
use Rattle.tftp_ends.specs.Endpoint.{endpoint_text}
use Rattle.tftp_status.specs.Counts.{saturated}
use Rattle.tftp_status.specs.declared.counts.Counts.{Counts}
use Rattle.tftp_status.specs.declared.counts.OutcomeCounts.{OutcomeCounts}
use Rattle.tftp_status.specs.declared.counts.TransferCounts.{TransferCounts}
use Rattle.tftp_status.specs.declared.status_text.Closed.{Closed}
use Rattle.tftp_status.specs.declared.datagrams.Datagrams.{Datagrams}
use Rattle.tftp_status.specs.declared.labels.Labels.{Labels}
use Rattle.tftp_status.specs.declared.status_text.Facts.{Facts}
use Rattle.tftp_status.specs.declared.status_text.Kind.{Kind}
use Rattle.tftp_status.specs.declared.status_text.Kind.TheVariants.{Counter, Gauge}
use Rattle.tftp_status.specs.declared.status_text.Metric.{Metric}
use Rattle.tftp_status.specs.declared.status_text.Sample.{Sample}

-- ---- the lines of a metric
abbrev pub kind_text : Kind → List ℕ
kind_text Counter = codes "counter"
kind_text Gauge = codes "gauge"

-- what it is, and its type
abbrev pub head_text : List ℕ → Kind → List ℕ → List ℕ
head_text name kind help =
    codes "# HELP "
    ++ (name
    ++ (codes " "
    ++ (help ++ (codes "\n# TYPE " ++ (name ++ (codes " " ++ (kind_text kind ++ codes "\n")))))))

-- the label of a server of several, behind another one
abbrev pub server_label : Option ℕ → List ℕ
server_label (Some server) = codes ",server=\"" ++ (decimal server ++ codes "\"")
server_label None = []

-- the labels of a server
abbrev pub labels_text : Labels → List ℕ
labels_text labels =
    codes "address=\""
    ++ (endpoint_text labels.address ++ (codes "\"" ++ server_label labels.server))

-- a sample without a label of its own, and with one
abbrev pub lone_text : List ℕ → Labels → ℕ → List ℕ
lone_text name labels value =
    name ++ (codes "{" ++ (labels_text labels ++ (codes "} " ++ (decimal value ++ codes "\n"))))

abbrev pub sample_text : List ℕ → List ℕ → List ℕ → Labels → ℕ → List ℕ
sample_text name label of labels value =
    name
    ++ (codes "{"
    ++ (label
    ++ (codes "=\""
    ++ (of
    ++ (codes "\"," ++ (labels_text labels ++ (codes "} " ++ (decimal value ++ codes "\n"))))))))

abbrev pub sample_line : Sample → List ℕ
sample_line sample =
    sample_text sample.name.now sample.label.now sample.of.now sample.labels sample.value

-- ---- the metrics
abbrev pub answer_text : List ℕ → Labels → ℕ → List ℕ
answer_text = sample_text (codes "tftpd_requests_total") (codes "answer")

-- datagrams to the request port, by their answer
abbrev pub requests_text : Counts → Labels → List ℕ
requests_text counts labels =
    head_text (codes "tftpd_requests_total") Counter
    (codes "Datagrams to the request port, by their answer.")
    ++ (answer_text (codes "opened") labels (saturated (counts.reads.opened + counts.writes.opened))
    ++ (answer_text (codes "refused") labels counts.requests.refused
    ++ (answer_text (codes "busy") labels counts.requests.busy
    ++ (answer_text (codes "ignored") labels counts.requests.ignored
    ++ answer_text (codes "lost") labels counts.requests.lost))))

-- closed transfers of a direction with an outcome
abbrev pub closed_text : List ℕ → List ℕ → Labels → ℕ → List ℕ
closed_text way outcome labels value =
    codes "tftpd_transfers_total{direction=\""
    ++ (way
    ++ (codes "\",outcome=\""
    ++ (outcome
    ++ (codes "\"," ++ (labels_text labels ++ (codes "} " ++ (decimal value ++ codes "\n")))))))

abbrev pub closed_of : Closed → List ℕ
closed_of closed = closed_text closed.way.now closed.outcome.now closed.labels closed.value

abbrev pub outcomes_text : List ℕ → Labels → OutcomeCounts → List ℕ
outcomes_text way labels counts =
    (closed_text way (codes "complete") labels counts.complete
    ++ (closed_text way (codes "timed_out") labels counts.timed_out
    ++ (closed_text way (codes "peer_error") labels counts.peer_error
    ++ (closed_text way (codes "illegal") labels counts.illegal
    ++ closed_text way (codes "refused") labels counts.refused))))
    ++ (closed_text way (codes "too_large") labels counts.too_large
    ++ (closed_text way (codes "store_fault") labels counts.store_fault
    ++ (closed_text way (codes "source_fault") labels counts.source_fault
    ++ closed_text way (codes "not_netascii") labels counts.not_netascii)))

abbrev pub transfers_text : Counts → Labels → List ℕ
transfers_text counts labels =
    head_text (codes "tftpd_transfers_total") Counter (codes "Closed transfers, by their outcome.")
    ++ (outcomes_text (codes "read") labels counts.reads.outcomes
    ++ outcomes_text (codes "write") labels counts.writes.outcomes)

-- a metric of one sample
abbrev pub metric_text : List ℕ → Kind → List ℕ → Labels → ℕ → List ℕ
metric_text name kind help labels value = head_text name kind help ++ lone_text name labels value

abbrev pub metric_of : Metric → List ℕ
metric_of metric =
    metric_text metric.name.now metric.kind metric.help.now metric.labels metric.value

-- what closed transfers moved
abbrev pub amounts_text : Counts → Labels → List ℕ
amounts_text counts labels =
    head_text (codes "tftpd_bytes_total") Counter
    (codes "Bytes of DATA of closed transfers, each block once.")
    ++ (sample_text (codes "tftpd_bytes_total") (codes "direction") (codes "read") labels
    counts.reads.bytes
    ++ (sample_text (codes "tftpd_bytes_total") (codes "direction") (codes "write") labels
    counts.writes.bytes
    ++ metric_text (codes "tftpd_blocks_sent_again_total") Counter
    (codes "Datagrams that closed transfers sent again.") labels counts.again))

-- how many transfers of a direction are open
abbrev pub open_of : TransferCounts → ℕ
open_of counts = counts.opened - counts.closed

-- what the sockets moved, and how many transfers are open
abbrev pub load_text : Counts → Datagrams → Labels → List ℕ
load_text counts datagrams labels =
    head_text (codes "tftpd_datagrams_total") Counter
    (codes "Datagrams of all ports of the server.")
    ++ (sample_text (codes "tftpd_datagrams_total") (codes "way") (codes "received") labels
    datagrams.received
    ++ (sample_text (codes "tftpd_datagrams_total") (codes "way") (codes "sent") labels
    datagrams.sent
    ++ (head_text (codes "tftpd_transfers_open") Gauge (codes "Transfers that are open.")
    ++ (sample_text (codes "tftpd_transfers_open") (codes "direction") (codes "read") labels
    (open_of counts.reads)
    ++ sample_text (codes "tftpd_transfers_open") (codes "direction") (codes "write") labels
    (open_of counts.writes)))))

-- what does not change while the server runs, and when the text was made
abbrev pub fixed_text : Facts → List ℕ
fixed_text facts =
    metric_text (codes "tftpd_transfers_limit") Gauge (codes "The most transfers that may be open.")
    facts.labels facts.limit
    ++ (metric_text (codes "tftpd_start_time_seconds") Gauge
    (codes "When the server started, since 1970 began in UTC.") facts.labels facts.start
    ++ (metric_text (codes "tftpd_report_time_seconds") Gauge
    (codes "When this text was made, since 1970 began in UTC.") facts.labels facts.time
    ++ (head_text (codes "tftpd_build_info") Gauge (codes "The version of the program.")
    ++ sample_text (codes "tftpd_build_info") (codes "version") facts.version.now facts.labels 1)))

-- the text of these counts and datagrams, with these lines of the open transfers
abbrev pub status_text : Counts → Datagrams → Facts → List ℕ → List ℕ
status_text counts datagrams facts lines =
    requests_text counts facts.labels
    ++ (transfers_text counts facts.labels
    ++ (amounts_text counts facts.labels
    ++ (load_text counts datagrams facts.labels ++ (fixed_text facts ++ lines))))
