mod Quieting
