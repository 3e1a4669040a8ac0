-- What a port asks of a place.
use Rattle.queue_core.specs.Step.{ConfigAsk}
use Rattle.nfqa_msgs.specs.declared.request.Request.TheVariants.{Config}
use Rattle.queue_core.specs.declared.event.Event.{Event}
use Rattle.queue_core.specs.declared.event.Event.TheVariants.{Ask}
use Rattle.place_history.specs.declared.place.requests.Asker.{Asker}
use Rattle.place_history.specs.declared.place.requests.ConfigRequest.{ConfigRequest}

-- what a config request asks for
abbrev pub asked : ConfigRequest → ConfigAsk
asked ask =
    record {
      command = ask.command;
      params = ask.params;
      maximum = ask.maxlen;
      flags = ask.flags;
      mask = ask.mask;
    }

-- its event
abbrev pub config_event : Asker → ConfigRequest → Event
config_event asker ask =
    Ask asker.port asker.call
    (Config asker.queue ask.command ask.params ask.maxlen ask.flags ask.mask)
