pub mod PlotHost
